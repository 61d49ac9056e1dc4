-- From every register whose arrays have their places there is a walk over lines that meets what `answer_lines` ensures: its places lie in the
-- input and the output, and a name that is wanted lies in the next line.
use Rattle.std.proofs.Common.{◌≡◌, ℕ, suc, ◌+◌, ◌-◌, ◌*◌, ◌<◌, ◌≤◌, true, eqb, ◌⊎◌, List, [], ◌∷◌, length, drop, sym, refl, ap, ◌∙◌, subst, inl, inr, arith, length-append, length-drop, drop-drop, eqb-true, leb-true}
use borrow.Author.Tests.{eqb-false}
use Rattle.lists.proofs.Tests.{by_test, true_false}
use Rattle.lists.proofs.Parts.{drop_past}
use Rattle.notification.specs.Reading.{lines_in}
use Rattle.session.specs.Lines.{Reading}
use Rattle.std.specs.Prelude.{Option, Some, None}
use Rattle.ledger.specs.Call as Call
use Rattle.ledger.specs.declared.Entry.TheVariants.{SevenDays}
use Rattle.register.specs.View.{Register, held}
use Rattle.register.specs.Written.{Done, does, does_reading}
use Rattle.register.proofs.Runs.{did_all}
use Rattle.register.proofs.Sized.{Sized, ref, ref_mut}
use Rattle.register.proofs.FilingsExist.{reading_seen}
use Rattle.register.proofs.RunsExist.{next as next-call}
use Rattle.register.specs.Told.{Told, told, tells}
use Rattle.script.specs.Lines.{Asked, calls, file_of, engagement, record_of, unknown, line_of}
use Rattle.script.specs.Spans.{cut}
use Rattle.script.specs.Answers.{answer_end}
use Rattle.session.specs.Lines.{File, line_step}
use Rattle.session.specs.declared.store.Store.{Store}
use Rattle.lines.specs.Walking.{Walked, stands, has_room, next, wanted, file_in, says_read, stops, answered, walk, NamedIf}
use Rattle.lines.specs.declared.answering.Wants.{Wants}
use Rattle.lines.specs.declared.answering.Wants.TheVariants as Want
use Rattle.lines.specs.declared.answering.Wants.TheVariants.{Input, Room}
use Rattle.lines.proofs.Walks.{walk_none, walk_room, walk_file, walk_on, told_on, cut_rest}
use Rattle.lines.proofs.Cutting.{first_line_lem}
use Rattle.lines.proofs.Printing.{put_long}
use Rattle.lines.proofs.Whole.{line_here}
use Rattle.lines.proofs.AnswersFit.{answer_short}
use Rattle.lines.proofs.LinesFit.{Early, early_line}
use Rattle.lines.proofs.Names.{wanted_named}
use Rattle.lines.proofs.Blocks.{Went, goes}

-- ---- a line on a register whose arrays have their places

-- the register has its places, and holds the ledger that is told
record Even (t : Told) : Type 0 where
  pub sized : Sized t.register
  pub holds : t.ledger ≡ held t.register

even_call : (r : Register) → Sized r → (c : Call.Call) → Even (told (does r c))
even_call r z c =
    let n = next-call r z c in
    subst (λ (d : Done). Even (told d)) (did_all n.did) (record { sized = n.sized; holds = refl })

even_reading : (r : Register) → Sized r → (u : List ℕ) (x : Reading) → Even (told (does_reading r SevenDays u x))
even_reading r z u x =
    let y = reading_seen r u x z in
    subst (λ (d : Done). Even (told d)) y.is (record { sized = y.sized; holds = refl })

even_line : (r : Register) (file : File) (a : Asked) → Sized r → Even (line_step r file a)
unfolding line_step
even_line r file (calls c) z = even_call r z c
even_line r (Some reading) (file_of submitter name) z = even_reading r z submitter reading
even_line r None (file_of submitter name) z = record { sized = z; holds = refl }
even_line r file (engagement actor category day s) z = record { sized = z; holds = refl }
even_line r file (record_of asker id) z = record { sized = z; holds = refl }
even_line r file unknown z = record { sized = z; holds = refl }

-- ---- how far a walk goes

-- the register has its places and holds the ledger, whose records count from steps of two digits
pub record Good (w : Walked) : Type 0 where
  pub sized : Sized w.register
  pub holds : w.ledger ≡ held w.register
  pub early : Early w.ledger

-- what is left to do: twice the lines that are left, and one more where room is wanted or no file is given
abbrev pub room_fee : Wants → ℕ
room_fee Input = 0
room_fee (Want.File from to) = 0
room_fee Room = 1

abbrev pub fee : Option File → ℕ
fee (Some file) = 0
fee None = 1

abbrev pub left : List ℕ → ℕ → ℕ
left input at = length (lines_in (drop at input))

pub record Goes (input : List ℕ) (given : Option File) (w v : Walked) : Type 0 where
  pub good : Good v
  pub reached : v.at ≤ length input
  pub room : v.out ≤ length w.output
  pub as_long : length v.output ≡ length w.output
  pub named : NamedIf input v.at v.wants
  pub fewer : left input v.at ≤ left input w.at
  pub lower : has_room w.output w.out ≡ true → (v.wants ≡ Input) ⊎ (2 * left input v.at + room_fee v.wants < 2 * left input w.at + fee given)

fee_most : (want : Wants) → room_fee want ≤ 1
fee_most Input = omega arith
fee_most (Want.File from to) = omega arith
fee_most Room = omega arith

module _ (input : List ℕ) where
  -- one line answered
  module _ (given : Option File) (w : Walked) (g : Good w) (line : List ℕ) where
    abbrev v : Walked
    v = answered given w line

    answered_good : Good v
    answered_good =
        let t = line_step w.register (file_in given) (line_of line) in
        let e = even_line w.register (file_in given) (line_of line) g.sized in
        let same : tells t.register t.said ≡ t = ap (λ l. record { register = t.register; ledger = l; said = t.said }) (sym e.holds) in
        let on = told_on given w line t.register t.said (next w.number) (w.at + (length line + 1)) _ _ g.holds same refl refl refl refl in
        record {
          sized = e.sized;
          holds = sym (ap (λ (x : Walked). x.ledger) on);
          early = (early_line w.ledger (file_in given) (line_of line) g.early).0;
        }

    answered_room : has_room w.output w.out ≡ true → v.out ≤ length w.output
    unfolding answer_end
    answered_room h =
        let said = (says_read w.ledger (file_in given) (line_of line)).said in
        let s = (early_line w.ledger (file_in given) (line_of line) g.early).1 in
        rw h (omega (arith, leb-true (w.out + 64) (length w.output) h, answer_short (next w.number) said s))

  stays : (given : Option File) (w : Walked) (want : Wants) → Good w → w.at ≤ length input → w.out ≤ length w.output → NamedIf input w.at want →
      (has_room w.output w.out ≡ true → (want ≡ Input) ⊎ (2 * left input w.at + room_fee want < 2 * left input w.at + fee given)) → Goes input given w (stops w want)
  stays given w want g h k n l =
      record {
        good = record { sized = g.sized; holds = g.holds; early = g.early };
        reached = h;
        room = k;
        as_long = refl;
        named = n;
        fewer = omega arith;
        lower = l;
      }

  pub walk_goes : (ls : List (List ℕ)) (given : Option File) (w : Walked) → Good w → w.at ≤ length input → w.out ≤ length w.output → lines_in (drop w.at input) ≡ ls →
      Goes input given w (walk given w ls)
  walk_goes [] given w g h k e =
      subst (Goes input given w) (sym (walk_none given w)) (stays given w Input g h k (omega arith) (λ t. inl refl))
  walk_goes (line ∷ ls) given w g h k e =
      let x = first_line_lem (drop w.at input) line ls e in
      let l : length input - w.at ≡ length line + suc (length x.rest) = sym (length-drop w.at input) ∙ ap length x.parts ∙ length-append line (10 ∷ x.rest) in
      by_test (has_room w.output w.out)
      (λ t.
      by_test (eqb (wanted given line) 0)
      (λ u.
      let v = answered given w line in
      let to = length line + 1 in
      let place : drop (w.at + to) input ≡ x.rest = sym (drop-drop to w.at input) ∙ ap (drop to) x.parts ∙ drop_past line 10 x.rest to refl in
      let long = put_long w.output w.out (next w.number) (says_read w.ledger (file_in given) (line_of line)).said in
      let later = walk_goes ls None v (answered_good given w g line) (omega (arith, l)) (omega (arith, long, answered_room given w g line t)) (ap lines_in place ∙ x.others) in
      let n : left input v.at ≡ length ls = ap length (ap lines_in place ∙ x.others) in
      let m : left input w.at ≡ suc (length ls) = ap length e in
      subst (Goes input given w) (sym (walk_on given w line ls v t (eqb-true (wanted given line) 0 u) refl))
      (record {
        good = later.good;
        reached = later.reached;
        room = omega (arith, later.room, long);
        as_long = later.as_long ∙ long;
        named = later.named;
        fewer = omega (arith, later.fewer, n, m);
        lower = λ q. inr (omega (arith, later.fewer, n, m, fee_most (walk None v ls).wants));
      }))
      (λ u.
      let p : 0 < wanted given line = omega (arith, eqb-false (wanted given line) 0 u) in
      let i = wanted_named given line p in
      let from = w.at + wanted given line in
      let to = w.at + length line in
      let here : cut input w.at to ≡ line = line_here input (drop w.at input) line ls w.at to refl e refl in
      subst (Goes input given w) (sym (walk_file given w line ls t p))
      (stays given w (Want.File from to) g h k
      (record {
        after = omega (arith, i.0.inside);
        inside = omega (arith, l, h);
        submitter = i.0.submitter;
        line = ap line_of here ∙ i.0.files ∙ ap (file_of i.0.submitter) (ap (drop (wanted given line)) (sym here) ∙ cut_rest input w.at (wanted given line) to);
      })
      (λ q. inr (rw i.1 (omega arith))))))
      (λ t. subst (Goes input given w) (sym (walk_room given w line ls t)) (stays given w Room g h k (omega arith) (λ q. true_false (has_room w.output w.out) q t)))

-- ---- so there is what `answer_lines` ensures

-- a register as the store that it is
abbrev store_of : Register → Store
store_of r =
    record {
      head = r.head;
      statuses = r.columns.statuses;
      ids = r.columns.ids;
      keys = r.columns.keys;
      marks = r.columns.marks;
      rows = r.columns.rows;
      numbers = r.loads.keys;
      approved = r.loads.approved;
      loads = r.loads.rows;
    }

-- the walk from a standing, with the ledger that its register then holds
abbrev pub walked_on : Option File → List ℕ → Walked → Walked
walked_on given input w =
    let v = walk given w (lines_in (drop w.at input)) in
    stands v.register v.number v.at v.output v.out v.wants

module _ (given : Option File) (input : List ℕ) (r : Register) (number at : ℕ) (output : List ℕ) (out : ℕ) where
  abbrev before : Walked
  before = stands r number at output out Input

  pub walk_exists : Goes input given before (walk given before (lines_in (drop at input))) →
      Went given input before (walked_on given input before)
  walk_exists g =
      let v = walk given before (lines_in (drop at input)) in
      let x = v.register in
      goes ([], ([], ([], tt))) (ref_mut (store_of r), (number, (ref input, (at, (ref_mut output, (out, (given, tt)))))))
      (record { number = v.number; at = v.at; out = v.out; wants = v.wants })
      (ref_mut (store_of x), (number, (ref input, (at, (ref_mut v.output, (out, (given, tt)))))))
      (λ t. (
        ap (λ l. record { register = x; ledger = l; number = v.number; at = v.at; output = v.output; out = v.out; wants = v.wants }) (sym g.good.holds),
        record { reached = λ h. g.reached; room = λ h. g.room; named = g.named },
      ))
