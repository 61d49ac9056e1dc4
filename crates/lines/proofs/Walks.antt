-- A walk over lines goes on from each line that is answered, and stops where a file, more input or more room is wanted.
use Rattle.std.proofs.Common.{◌≡◌, ℕ, ◌+◌, ◌-◌, ◌<◌, ◌≤◌, Bool, true, false, eqb, List, [], ◌∷◌, length, take, drop, sym, refl, ap, ap₂, ◌∙◌, subst, arith, length-drop, drop_of_length-le, length-take-le, drop-drop, ne_eqb, leb, leb-true, leb-false}
use Rattle.lists.proofs.Tests.{by_test}
use Rattle.notification.specs.Reading.{lines_in}
use Rattle.std.specs.Prelude.{Option, Some, None, Ok, Err}
use Rattle.session.specs.Lines.{Reading}
use Rattle.reader.specs.Walking.{LineEnd}
use Rattle.reader.proofs.Ends.{lines_here, lines_over}
use Rattle.ledger.specs.declared.Entry.TheVariants.{SevenDays}
use Rattle.answers.specs.declared.Said.{Said}
use Rattle.register.specs.View.{Register, held}
use Rattle.register.specs.Written.{does_reading}
use Rattle.register.specs.Told.{Told, told, tells}
use Rattle.script.specs.Lines.{Asked, calls, file_of, engagement, record_of, unknown, line_of}
use Rattle.script.specs.Spans.{cut, first_text, second_text, asked, names_file, line_read}
use Rattle.script.specs.Answers.{answer_put, answer_end}
use Rattle.script.specs.declared.reading.Line.{Line}
use Rattle.session.specs.Lines.{File, line_step}
use Rattle.session.specs.Stores.{register_in}
use Rattle.session.specs.declared.store.Store.{Store}
use Rattle.lines.proofs.Fronts.{drop_take}
use Rattle.lines.proofs.Names.{given_none, file_told, none_told, no_file}
use Rattle.lines.specs.Scripts.{Line as Done}
use Rattle.lines.specs.Walking.{Walked, stands, has_room, next, wanted, file_in, stops, filed, says_read, tells_on, answered, walk, NamedIn, NamedIf, Progressed}
use Rattle.lines.specs.declared.answering.Wants.{Wants}
use Rattle.lines.specs.declared.answering.Wants.TheVariants as Want
use Rattle.lines.specs.declared.answering.Wants.TheVariants.{Input, Room}

-- ---- lines that are answered

-- what is told of a line, and that no file is wanted for it
pub record Answers (r : Register) (line : List ℕ) (given : Option File) (next : Register) (said : Said) : Type 0 where
  pub told : tells next said ≡ line_step r (file_in given) (line_of line)
  pub unnamed : wanted given line ≡ 0

-- a line that was read, answered with a register's store
module _ (line : List ℕ) {form : Line} (w : form ≡ line_read line) (r : Register) {store done : Store} {said answered : Said} (a : store ≡ done) (b : said ≡ answered) where
  told_so : {x : Told} → tells (register_in done) answered ≡ x → tells (register_in store) said ≡ x
  told_so e = ap₂ (λ (s : Store) (y : Said). tells (register_in s) y) a b ∙ e

  pub filed_answers : {given : Option File} {file : File} → names_file form.kind ≡ true → given ≡ Some file →
      tells (register_in done) answered ≡ line_step r file (file_of (first_text line form) (second_text line form)) →
      Answers r line given (register_in store) said
  filed_answers {given} {file} f g t =
      record {
        told = told_so (file_told line w r file f t) ∙ rw g refl;
        unnamed = given_none given line g;
      }

  pub others_answer : {given : Option File} (file : File) → names_file form.kind ≡ false → tells (register_in done) answered ≡ line_step r file (asked line form) →
      Answers r line given (register_in store) said
  others_answer {given} file f t = record { told = told_so (none_told line w r file (file_in given) f t); unnamed = no_file line w given f }

-- ---- a step of the walk

-- a filing's step is that of the ledger, and so is a line's
filed_step : (r : Register) (u : List ℕ) (x : Reading) →
    filed (held r) u x
    ≡ record { ledger = (told (does_reading r SevenDays u x)).ledger; said = (told (does_reading r SevenDays u x)).said }
filed_step r u (Ok n) = refl
filed_step r u (Err f) = refl

says_step : (r : Register) (file : File) (a : Asked) →
    says_read (held r) file a
    ≡ record { ledger = (line_step r file a).ledger; said = (line_step r file a).said }
unfolding says_read line_step
says_step r file (calls c) = refl
says_step r (Some reading) (file_of submitter name) = filed_step r submitter reading
says_step r None (file_of submitter name) = refl
says_step r file (engagement actor category day s) = refl
says_step r file (record_of asker id) = refl
says_step r file unknown = refl

-- a line was answered: what is known of the register, the number, the places and the output
pub told_on : (given : Option File) (w : Walked) (line : List ℕ) (s : Register) (said : Said) (n to out : ℕ) (output : List ℕ) → w.ledger ≡ held w.register →
    tells s said ≡ line_step w.register (file_in given) (line_of line) → n ≡ next w.number → to ≡ w.at + (length line + 1) →
    output ≡ answer_put w.output w.out n said → out ≡ answer_end w.output w.out n said →
    stands s n to output out Input ≡ answered given w line
told_on given w line s said n to out output d e f g h k =
    let t = line_step w.register (file_in given) (line_of line) in
    let x : says_read w.ledger (file_in given) (line_of line) ≡ record { ledger = t.ledger; said = t.said } =
    rw d (says_step w.register (file_in given) (line_of line)) in
    subst (λ (y : Done). stands s n to output out Input ≡ tells_on w line t.register y) (sym x)
    (subst (λ (t : Told). stands s n to output out Input ≡ tells_on w line t.register (record { ledger = t.ledger; said = t.said })) e (rw (k, h, g, f)))

module _ (given : Option File) (w : Walked) where
  pub walk_none : walk given w [] ≡ stops w Input
  unfolding walk
  walk_none = refl

  module _ (line : List ℕ) (ls : List (List ℕ)) where
    pub walk_room : has_room w.output w.out ≡ false → walk given w (line ∷ ls) ≡ stops w Room
    unfolding walk
    walk_room e = rw e

    pub walk_file : has_room w.output w.out ≡ true → 0 < wanted given line →
        walk given w (line ∷ ls) ≡ stops w (Want.File (w.at + wanted given line) (w.at + length line))
    unfolding walk
    walk_file e h = let f : eqb (wanted given line) 0 ≡ false = ne_eqb (wanted given line) 0 (λ q. omega (arith, q, h)) in rw (e, f)

    pub walk_on : (x : Walked) → has_room w.output w.out ≡ true → wanted given line ≡ 0 → x ≡ answered given w line →
        walk given w (line ∷ ls) ≡ walk None x ls
    unfolding walk
    walk_on x e f g = rw (e, f, g)

-- ---- the lines of an input

module _ (given : Option File) (w : Walked) (input : List ℕ) (stop : ℕ) (e : LineEnd input w.at stop) where
  abbrev line : List ℕ
  line = take (stop - w.at) (drop w.at input)

  pub line_length : stop ≤ length input → length line ≡ stop - w.at
  line_length h = length-take-le (stop - w.at) (drop w.at input) (rw length-drop (omega arith))

  pub over : length input ≤ stop → walk given w (lines_in (drop w.at input)) ≡ stops w Input
  over h = rw (lines_over input w.at stop e h) (walk_none given w)

  pub here_room : stop < length input → has_room w.output w.out ≡ false →
      walk given w (lines_in (drop w.at input)) ≡ stops w Room
  here_room h k = rw (lines_here input w.at stop e h) (walk_room given w line _ k)

  pub here_file : stop < length input → has_room w.output w.out ≡ true → (name : ℕ) → name ≡ wanted given line → 0 < name →
      walk given w (lines_in (drop w.at input)) ≡ stops w (Want.File (w.at + name) stop)
  here_file h k name f p =
      let l : w.at + length line ≡ stop = omega (arith, line_length e.within, e.after) in
      rw (lines_here input w.at stop e h, walk_file given w line _ k (rw f at p), l, f)

  pub here_on : w.ledger ≡ held w.register → stop < length input → has_room w.output w.out ≡ true → wanted given line ≡ 0 → (s : Register) (said : Said) (n out : ℕ) (output : List ℕ) →
      tells s said ≡ line_step w.register (file_in given) (line_of line) → n ≡ next w.number → output ≡ answer_put w.output w.out n said →
      out ≡ answer_end w.output w.out n said →
      walk given w (lines_in (drop w.at input))
      ≡ walk None (stands s n (stop + 1) output out Input) (lines_in (drop (stop + 1) input))
  here_on d h k f s said n out output t a b c =
      let l : stop + 1 ≡ w.at + (length line + 1) = omega (arith, line_length e.within, e.after) in
      rw (lines_here input w.at stop e h) (walk_on given w line _ _ k f (told_on given w line s said n (stop + 1) out output d t a l b c))

-- a part of a span
pub cut_rest : (s : List ℕ) (from n to : ℕ) → drop n (cut s from to) ≡ cut s (from + n) to
cut_rest s from n to =
    let e : to - from - n ≡ to - (from + n) = omega arith in
    drop_take n (to - from) (drop from s) ∙ rw (e, drop-drop n from s)

-- ---- how far the walk is

-- what the lines from here on come to is what all lines come to; the places are in their bounds, and the output is as long as it was
pub record Going (input : List ℕ) (given₀ : Option File) (w₀ : Walked) (given : Option File) (w : Walked) : Type 0 where
  pub on : walk given₀ w₀ (lines_in (drop w₀.at input)) ≡ walk given w (lines_in (drop w.at input))
  pub reached : w₀.at ≤ length input → w.at ≤ length input
  pub room : w₀.out ≤ length w₀.output → w.out ≤ length w₀.output
  pub as_long : length w.output ≡ length w₀.output
  pub even : w.ledger ≡ held w.register

pub begins : (input : List ℕ) (given : Option File) (w : Walked) → w.ledger ≡ held w.register → Going input given w given w
begins input given w e = record { on = refl; reached = λ h. h; room = λ h. h; as_long = refl; even = e }

module _ {input : List ℕ} {given₀ : Option File} {w₀ : Walked} {given : Option File} {w : Walked} (g : Going input given₀ w₀ given w) where
  -- the walk stops: what is told of it
  abbrev Stopped : Wants → Type 0
  Stopped want =
      (stops w want ≡ walk given₀ w₀ (lines_in (drop w₀.at input)))
      × Progressed input w₀.at w₀.output w₀.out (record { number = w.number; at = w.at; out = w.out; wants = want })

  stopped : (want : Wants) → walk given w (lines_in (drop w.at input)) ≡ stops w want → NamedIf input w.at want → Stopped want
  stopped want k n = (sym (g.on ∙ k), record { reached = g.reached; room = g.room; named = n })

  pub past_end : length input ≤ w.at → Stopped Input
  unfolding lines_in
  past_end h = stopped Input (rw (drop_of_length-le input h) (walk_none given w)) (omega arith)

  -- no line is left that has its LF
  pub no_line : (w.at ≤ length input → LineEnd input w.at (length input)) → Stopped Input
  no_line e =
      by_test (leb w.at (length input))
      (λ t. stopped Input (over given w input (length input) (e (leb-true w.at (length input) t)) (omega arith)) (omega arith))
      (λ t. past_end (omega (arith, leb-false w.at (length input) t)))

  module _ {stop : ℕ} (e : LineEnd input w.at stop) (inside : stop < length input) where
    abbrev pub its_line : List ℕ
    its_line = cut input w.at stop

    module _ {t : Bool} (room : t ≡ has_room w.output w.out) where
      pub at_room : t ≡ false → Stopped Room
      at_room f = stopped Room (here_room given w input stop e inside (sym room ∙ f)) (omega arith)

      module _ (f : t ≡ true) where
        pub at_file : {name : ℕ} → (name ≡ wanted given its_line) × (0 < name → NamedIn its_line name) → 0 < name → Stopped (Want.File (w.at + name) stop)
        at_file {name} p h =
            let n = p.1 h in
            let l = line_length given w input stop e e.within in
            let i = n.inside in
            let r = e.after in
            stopped (Want.File (w.at + name) stop) (here_file given w input stop e inside (sym room ∙ f) name p.0 h)
            (record {
              after = omega (arith, l, i, r);
              inside = e.within;
              submitter = n.submitter;
              line = n.files ∙ ap (file_of n.submitter) (cut_rest input w.at name stop);
            })

        pub goes_on : {s : Register} {said : Said} {n out : ℕ} {output : List ℕ} → Answers w.register its_line given s said → n ≡ next w.number →
            (output ≡ answer_put w.output w.out n said) × (out ≡ answer_end w.output w.out n said) × (out ≤ w.out + 64) → length output ≡ length w.output →
            Going input given₀ w₀ None (stands s n (stop + 1) output out Input)
        goes_on {s} {said} {n} {out} {output} a c d k =
            let h = leb-true (w.out + 64) (length w.output) (sym room ∙ f) in
            let j = d.2 in
            record {
              on = g.on ∙ here_on given w input stop e g.even inside (sym room ∙ f) a.unnamed s said n out output a.told c d.0 d.1;
              reached = λ q. omega (arith, inside);
              room = λ q. omega (arith, h, j, g.as_long);
              as_long = k ∙ g.as_long;
              even = refl;
            }
