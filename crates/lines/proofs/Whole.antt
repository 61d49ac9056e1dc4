-- What is printed for an input that comes in blocks. Each step of a run keeps one equation: what was written, what waits, and what is
-- to be printed for the bytes that are unread and all that may come are what is printed for the whole.
use Rattle.std.proofs.Common.{◌≡◌, ℕ, suc, ◌+◌, ◌-◌, ◌<◌, ◌≤◌, min, Bool, true, false, eqb, List, [], ◌∷◌, ◌++◌, length, take, drop, sym, refl, ap, ◌∙◌, subst, append_assoc, append-nil, le_trans, add-one, arith, length-append, length-set, length-take, take-suc-set, take_at, eqb-true}
use lib.Seq.{length-sets, take-append_seam}
use borrow.Author.Tests.{eqb-false}
use Rattle.lists.specs.Searches.{every}
use Rattle.lists.proofs.Searches.{every_take}
use Rattle.lists.proofs.Tests.{by_test, true_false}
use Rattle.notification.specs.Reading.{lines_in}
use Rattle.std.specs.Prelude.{Option, Some}
use Rattle.notification.proofs.Lines.{in_line, lines_first}
use Rattle.ledger.specs.Ledger.{Ledger, fresh}
use Rattle.register.specs.View.{held, lent}
use Rattle.tables.specs.Tables.{Columns, LoadColumns}
use Rattle.register.specs.declared.Fresh.{Fresh}
use Rattle.register.proofs.Runs.{Begun, begun_is}
use Rattle.script.specs.Lines.{line_of}
use Rattle.script.specs.Spans.{cut}
use Rattle.lines.specs.Scripts.{lines_after, lines_of, joined, Files, name_of, printed}
use Rattle.session.specs.Lines.{File}
use Rattle.lines.specs.Walking.{held_of, is_last, ended, Walked, walk, Named, NamedIf}
use Rattle.lines.specs.declared.answering.Wants.TheVariants as Want
use Rattle.lines.specs.declared.answering.Wants.TheVariants.{Input}
use Rattle.lines.proofs.Fronts.{put_front, none_held, some_last}
use Rattle.lines.proofs.Cutting.{first_line_lem, no_first, of_first, of_last, last_some, cuts, cut_line, same_asked, held_alike}
use Rattle.lines.proofs.Printing.{some, Fits, Left, walk_prints}
use Rattle.lines.proofs.Blocks.{Held, Ended, Standing, block, walked, reads, further, writes, Reads, Ran, starts, fed, found, wrote, went, closed, held_is, ended_is, Walks, went_is}

-- no input has as many bytes as 64 bits can count
abbrev pub most : ℕ
most = 18446744073709551615

abbrev unread : Standing → List ℕ
unread s = drop s.at (block s)

-- what is printed so far: what was written, and what waits
abbrev pub out_of : Standing → List ℕ
out_of s = s.written ++ take s.out s.output

-- what may come: anything, and nothing once the input has ended, when all bytes are lines
abbrev Comes : Bool → Bool → List ℕ → Type 0
Comes false k more = 0 ≤ 0
Comes true k more = (k ≡ true) × (more ≡ [])

-- a last line that lacks its LF is given one
abbrev given_lf : Bool → ℕ
given_lf false = 0
given_lf true = 1

one_lf : (e : Bool) → given_lf e ≤ 1
one_lf false = omega arith
one_lf true = omega arith

record Tells (files : Files) (bs : List (List ℕ)) (e : Bool) (s : Standing) : Type 0 where
  pub whole : (k : Bool) (more : List ℕ) → Comes e k more →
      printed files fresh 1 (cuts k (joined bs ++ more)) ≡ out_of s ++ printed files (held s.register) (suc s.number) (cuts k (unread s ++ more))
  pub few : s.number + length (unread s) ≤ length (joined bs) + given_lf e
  pub room : s.out ≤ length s.output
  pub long : 513 < length s.input
  pub ends : e ≡ true → lines_of (unread s) ≡ lines_in (unread s)

-- the next line, which names a file
record Next (s : Standing) (from to : ℕ) : Type 0 where
  pub line : List ℕ
  pub others : List (List ℕ)
  pub here : lines_in (unread s) ≡ line ∷ others
  pub name : name_of (line_of line) ≡ cut (block s) from to

record Rests (s : Standing) : Type 0 where
  pub idle : s.wants ≡ Input → lines_in (unread s) ≡ []
  pub named : (from to : ℕ) → s.wants ≡ Want.File from to → Next s from to

-- ---- the lines go on

-- the first line of what is unread is the input from there to its LF
pub line_here : (input rest line : List ℕ) (ls : List (List ℕ)) (at to : ℕ) → drop at input ≡ rest → lines_in rest ≡ line ∷ ls → to ≡ at + length line → cut input at to ≡ line
line_here input rest line ls at to d e f =
    let x = first_line_lem rest line ls e in
    let n : to - at ≡ length line = omega (arith, f) in
    ap (λ (i : ℕ). take i (drop at input)) n ∙ ap (take (length line)) (d ∙ x.parts) ∙ take-append_seam line (10 ∷ x.rest)

module _ (files : Files) (bs : List (List ℕ)) (e : Bool) (s : Standing) where
  module _ {given : Option File} {w : Walked} (t : Tells files bs e s) (v : Walks given (block s) (walked s) w)
      (q : Left files (walked s) (unread s) w) where
    abbrev place : drop w.at (block s) ≡ q.rest
    place = q.passed.place (block s) refl

    tells_on_lem : Tells files bs e (further s w)
    tells_on_lem =
        let p = q.passed in
        record {
          whole = λ k more c.
              t.whole k more c ∙ append_assoc s.written (take s.out s.output) (printed files (held s.register) (suc s.number) (cuts k (unread s ++ more)))
              ∙ ap (λ (x : List ℕ). s.written ++ x) (p.prints k more)
              ∙ sym (append_assoc s.written (take w.out w.output) (printed files w.ledger (suc w.number) (cuts k (q.rest ++ more))))
              ∙ ap (λ l. (s.written ++ take w.out w.output) ++ printed files l (suc w.number) (cuts k (q.rest ++ more))) v.even
              ∙ ap (λ (x : List ℕ). (s.written ++ take w.out w.output) ++ printed files (held w.register) (suc w.number) (cuts k (x ++ more))) (sym place);
          few = rw place (le_trans p.fewer t.few);
          room = omega (arith, v.room t.room, p.as_long);
          long = t.long;
          ends = λ h. rw place (p.whole (t.ends h));
        }

    rests_on : Rests (further s w)
    rests_on =
        record {
          idle = λ h. rw place (q.stop.idle h);
          named = λ from to h.
              let x = q.stop.named from to h in
              let n : Named (block s) w.at from to = subst (NamedIf (block s) w.at) h v.named in
              let l : cut (block s) w.at to ≡ x.0 = line_here (block s) q.rest x.0 x.1 w.at to place x.2 x.3 in
              record {
                line = x.0;
                others = x.1;
                here = rw place x.2;
                name = ap (λ (y : List ℕ). name_of (line_of y)) (sym l) ∙ ap name_of n.line;
              };
        }

  goes_on : length (joined bs) < most → {given : Option File} {w : Walked} → Tells files bs e s → Walks given (block s) (walked s) w →
      Fits files given (suc s.number) (unread s) → Tells files bs e (further s w) × Rests (further s w)
  goes_on few {given} {w} t v f =
      let ls = lines_in (unread s) in
      let r : (walk given (walked s) ls).out ≤ length s.output = subst (λ (x : Walked). x.out ≤ length s.output) v.is (v.room t.room) in
      let l = walk_prints files given (walked s) (unread s) ls refl f (omega (arith, t.few, few, one_lf e)) r in
      let q : Left files (walked s) (unread s) w = subst (Left files (walked s) (unread s)) (sym v.is) l in
      (tells_on_lem t v q, rests_on t v q)

-- what the file under the name that is wanted is read as is what the next line's is
found_fits : (files : Files) (s : Standing) (from to n : ℕ) (file : File) → Next s from to →
    Reads file (cut (block s) from to) (files n (cut (block s) from to)) → Fits files (Some file) n (unread s)
found_fits files s from to n file x k line ls h =
    let r : line ∷ ls ≡ x.line ∷ x.others = sym h ∙ x.here in
    let l : x.line ≡ line = cc in
    let m : cut (block s) from to ≡ name_of (line_of line) = sym x.name ∙ ap (λ (y : List ℕ). name_of (line_of y)) l in
    subst (λ (name : List ℕ). Reads file name (files n name)) m k

-- ---- a block comes

joined_more : (bs : List (List ℕ)) (b : List ℕ) → joined (bs ++ b ∷ []) ≡ joined bs ++ b
joined_more [] b = append-nil b
joined_more (x ∷ bs) b = ap (λ (t : List ℕ). x ++ t) (joined_more bs b) ∙ sym (append_assoc x (joined bs) b)

-- what is held of what is unread
module _ (s : Standing) {n : ℕ} {front : List ℕ} (h : Held s.input s.at s.end n front) where
  front_held : take n front ≡ take 513 (unread s)
  front_held =
      let d = held_is h in
      let v = held_of s.input s.at s.end in
      let l : length v ≤ length s.input = omega (arith, d.1, d.3) in
      ap (take n) (d.0 ∙ put_front s.input v l) ∙ take_at v (drop (length v) s.input) n (sym d.1)

  front_long : length front ≡ length s.input
  front_long = ap length (held_is h).0 ∙ length-sets s.input 0 (held_of s.input s.at s.end)

-- ---- a last line

nothing : (s : List ℕ) → length s ≡ 0 → s ≡ []
nothing [] e = refl
nothing (b ∷ s) e = absurd (omega (arith, e))

no_lines : lines_of [] ≡ lines_in []
unfolding lines_after lines_in
no_lines = refl

-- a line with its LF, and nothing behind it
one_of : (v : List ℕ) → every in_line v ≡ true → lines_of (v ++ 10 ∷ []) ≡ v ∷ []
unfolding lines_after
one_of v e = of_first v [] e

lf_lines : (v : List ℕ) → every in_line v ≡ true → lines_of (v ++ 10 ∷ []) ≡ lines_in (v ++ 10 ∷ [])
unfolding lines_in
lf_lines v e = one_of v e ∙ sym (lines_first v [] e)

last_alike : (files : Files) (l : Ledger) (n : ℕ) (u : List ℕ) → every in_line u ≡ true → 0 < length u →
    printed files l n (lines_of (take 513 u ++ 10 ∷ [])) ≡ printed files l n (lines_of u)
last_alike files l n u e h =
    let c : line_of (take 513 u) ≡ line_of u =
    ap line_of (sym (append-nil (take 513 u))) ∙ cut_line u [] ∙ ap line_of (append-nil u) in
    ap (printed files l n) (one_of (take 513 u) (every_take in_line 513 u e)) ∙ same_asked files l n (take 513 u) u [] c ∙ ap (printed files l n) (sym (of_last u e ∙ last_some u h))

ended_long : (front : List ℕ) (n : ℕ) → 513 < length front → 513 < length (ended front n)
unfolding ended
ended_long front n h = by_test (is_last front n) (λ t. rw (t, length-set front n 10) h) (λ t. rw t h)

module _ (files : Files) (bs : List (List ℕ)) (s : Standing) (t : Tells files bs false s) (r : Rests s) (i : s.wants ≡ Input) where
  abbrev unbroken : every in_line (unread s) ≡ true
  unbroken = no_first (unread s) (r.idle i)

  block_comes : (n : ℕ) (front : List ℕ) → Held s.input s.at s.end n front → (b input : List ℕ) → take (n + length b) input ≡ take n front ++ b →
      length input ≡ length front → Tells files (bs ++ b ∷ []) false (reads s input (n + length b))
  block_comes n front h b input p l =
      let text : unread (reads s input (n + length b)) ≡ take 513 (unread s) ++ b = p ∙ ap (λ (x : List ℕ). x ++ b) (front_held s h) in
      record {
        whole = λ k more c.
            let fresh_lines = printed files fresh 1 in
            let old = printed files (held s.register) (suc s.number) in
            ap (λ (x : List ℕ). fresh_lines (cuts k (x ++ more))) (joined_more bs b) ∙ ap (λ (x : List ℕ). fresh_lines (cuts k x)) (append_assoc (joined bs) b more)
            ∙ t.whole k (b ++ more) (omega arith)
            ∙ ap (λ (x : List ℕ). out_of s ++ x)
            (sym (held_alike files (held s.register) (suc s.number) k (unread s) (b ++ more) unbroken)
            ∙ ap (λ (x : List ℕ). old (cuts k x)) (sym (append_assoc (take 513 (unread s)) b more))
            ∙ ap (λ (x : List ℕ). old (cuts k (x ++ more))) (sym text));
        few =
            let a : length (take 513 (unread s) ++ b) ≤ length (unread s) + length b = rw (length-append, length-take) (omega arith) in
            let j : length (joined (bs ++ b ∷ [])) ≡ length (joined bs) + length b = ap length (joined_more bs b) ∙ length-append (joined bs) b in
            rw (text, j) (omega (arith, a, t.few));
        room = t.room;
        long = omega (arith, l, front_long s h, t.long);
        ends = λ q. true_false true refl (sym q);
      }

  closes : (n : ℕ) (front : List ℕ) → Held s.input s.at s.end n front → (m : ℕ) (input : List ℕ) → Ended front n m input → Tells files bs true (reads s input m)
  closes n front h m input d =
      let a = held_is h in
      let z = ended_is d in
      let w = front_long s h in
      let f = front_held s h in
      let below : n < length front = omega (arith, a.2, w, t.long) in
      let u : n ≡ length (take 513 (unread s)) = a.1 in
      let count : length (take 513 (unread s)) ≡ min 513 (length (unread s)) = length-take 513 (unread s) in
      let end : (text : List ℕ) → take m input ≡ text → printed files (held s.register) (suc s.number) (lines_of (unread s)) ≡ printed files (held s.register) (suc s.number) (lines_of text) →
      length text ≤ length (unread s) + 1 → lines_of text ≡ lines_in text → Tells files bs true (reads s input m) =
      λ text e p q o.
      record {
        whole = λ k more c.
            let old = printed files (held s.register) (suc s.number) in
            rw (c.0, c.1)
            (t.whole true [] (omega arith) ∙ ap (λ (x : List ℕ). out_of s ++ old (lines_of x)) (append-nil (unread s)) ∙ ap (λ (x : List ℕ). out_of s ++ x) p
            ∙ ap (λ (x : List ℕ). out_of s ++ old (lines_of x)) (sym (append-nil text) ∙ ap (λ (x : List ℕ). x ++ []) (sym e)));
        few = rw e (omega (arith, q, t.few));
        room = t.room;
        long = rw z.0 (ended_long front n (omega (arith, w, t.long)));
        ends = λ i. rw e o;
      } in
      by_test (eqb n 0)
      (λ g.
      let n0 = eqb-true n 0 g in
      let none = nothing (unread s) (omega (arith, n0, u, count)) in
      let m0 : m ≡ 0 = z.1 ∙ sym (none_held front n n0).1 in
      end [] (rw m0 refl) (rw none refl) (omega arith) no_lines)
      (λ g.
      let more : 0 < n = some n (eqb-false n 0 g) in
      let x = some_last front n more below in
      let e : take m input ≡ take 513 (unread s) ++ 10 ∷ [] = rw (z.0, z.1, ← x.0, ← x.1, add-one) (take-suc-set front n 10 below ∙ ap (λ (y : List ℕ). y ++ 10 ∷ []) f) in
      end (take 513 (unread s) ++ 10 ∷ []) e (sym (last_alike files (held s.register) (suc s.number) (unread s) unbroken (omega (arith, more, u, count))))
      (rw length-append (omega (arith, count))) (lf_lines (take 513 (unread s)) (every_take in_line 513 (unread s) unbroken)))

-- ---- every run

nothing_yet : lines_in [] ≡ []
unfolding lines_in
nothing_yet = refl

nothing_printed : (files : Files) (l : Ledger) (n : ℕ) → printed files l n [] ≡ []
unfolding printed
nothing_printed files l n = refl

module _ (files : Files) where
  at_first : (start : Fresh) → Begun start → (cols : Columns) (loads : LoadColumns) (input output : List ℕ) → 513 < length input → (s : Standing) →
      s ≡ record { register = lent start.head cols loads; number = 0; input = input; at = 0; end = 0; output = output; out = 0; wants = Input; written = [] } →
      Tells files [] false s × Rests s
  at_first start b cols loads input output h s e =
      rw e (
        record {
          whole = λ k more c. ap (λ l. printed files l 1 (cuts k more)) (sym ((begun_is b).1 cols loads));
          few = omega arith;
          room = omega arith;
          long = h;
          ends = λ q. true_false true refl (sym q);
        },
        record { idle = λ q. nothing_yet; named = λ from to q. let z : ◌≡◌ {A = ℕ} 0 1 = cc in absurd (omega arith) },
      )

  written_on : {bs : List (List ℕ)} {e : Bool} {s : Standing} → Tells files bs e s → Rests s → Tells files bs e (writes s) × Rests (writes s)
  written_on {s = s} t r = (
    record {
      whole = λ k more c. t.whole k more c ∙ ap (λ (x : List ℕ). x ++ printed files (held s.register) (suc s.number) (cuts k (unread s ++ more))) (sym (append-nil (out_of s)));
      few = t.few;
      room = omega arith;
      long = t.long;
      ends = t.ends;
    },
    record { idle = r.idle; named = λ from to q. let x = r.named from to q in record { line = x.line; others = x.others; here = x.here; name = x.name } },
  )

  shorter : (bs : List (List ℕ)) (b : List ℕ) → length (joined (bs ++ b ∷ [])) < most → length (joined bs) < most
  shorter bs b h = omega (arith, h, ap length (joined_more bs b) ∙ length-append (joined bs) b)

  sound : {bs : List (List ℕ)} {e : Bool} {s : Standing} → Ran files bs e s → length (joined bs) < most → Tells files bs e s × Rests s
  sound (starts start b cols loads input output h) few = at_first start b cols loads input output h _ refl
  sound (fed {bs = bs} {s = s} run i n front h b input p l w g) few =
      let q = sound run (shorter bs b few) in
      goes_on files (bs ++ b ∷ []) false (reads s input (n + length b)) few (block_comes files bs s q.0 q.1 i n front h b input p l) (went_is g) tt
  sound (found {bs = bs} {e = e} {s = s} run from to i file k w g) few =
      let q = sound run few in
      goes_on files bs e s few q.0 (went_is g) (found_fits files s from to (suc s.number) file (q.1.named from to i) k)
  sound (wrote run) few = let q = sound run few in written_on q.0 q.1
  sound (went {bs = bs} {e = e} {s = s} run w g) few =
      goes_on files bs e s few (sound run few).0 (went_is g) tt
  sound (closed {bs = bs} {s = s} run i n front h m input d w g) few =
      let q = sound run few in
      goes_on files bs true (reads s input m) few (closes files bs s q.0 q.1 i n front h m input d) (went_is g) tt

-- WHAT IS PRINTED, where more input is wanted
pub record Script (files : Files) (bs : List (List ℕ)) (e : Bool) (s : Standing) : Type 0 where
  -- before the input ends: every line that has its LF is answered
  pub so_far : e ≡ false → s.wants ≡ Input → out_of s ≡ printed files fresh 1 (lines_in (joined bs))
  -- at its end: every line is, also a last one that lacks its LF
  pub in_all : e ≡ true → s.wants ≡ Input → out_of s ≡ printed files fresh 1 (lines_of (joined bs))

-- THE THEOREM, OF EVERY RUN OVER EVERY LIST OF BLOCKS from a fresh register, whatever the buffers and the lent columns hold
pub script_in_blocks : (files : Files) (bs : List (List ℕ)) (e : Bool) (s : Standing) → Ran files bs e s → length (joined bs) < most → Script files bs e s
script_in_blocks files bs e s run few =
    let q = sound files run few in
    let t = q.0 in
    let r = q.1 in
    let old = printed files (held s.register) (suc s.number) in
    let rest : (k : Bool) → Comes e k [] → cuts k (unread s) ≡ [] → out_of s ≡ printed files fresh 1 (cuts k (joined bs)) =
    λ k c h.
    sym (ap (λ (x : List ℕ). printed files fresh 1 (cuts k x)) (sym (append-nil (joined bs))) ∙ t.whole k [] c
    ∙ ap (λ (x : List ℕ). out_of s ++ old (cuts k x)) (append-nil (unread s)) ∙ ap (λ (ls : List (List ℕ)). out_of s ++ old ls) h
    ∙ ap (λ (x : List ℕ). out_of s ++ x) (nothing_printed files (held s.register) (suc s.number)) ∙ append-nil (out_of s)) in
    record {
      so_far = λ f i. rest false (subst (λ (b : Bool). Comes b false []) (sym f) (omega arith)) (r.idle i);
      in_all = λ f i. rest true (subst (λ (b : Bool). Comes b true []) (sym f) (refl, refl)) (t.ends f ∙ r.idle i);
    }

-- so it is all one where the input is cut into blocks
pub cut_anywhere : (files : Files) (bs cs : List (List ℕ)) (s t : Standing) → joined bs ≡ joined cs → length (joined bs) < most →
    Ran files bs true s → Ran files cs true t → s.wants ≡ Input → t.wants ≡ Input → out_of s ≡ out_of t
cut_anywhere files bs cs s t e few a b i j =
    (script_in_blocks files bs true s a few).in_all refl i ∙ ap (λ (x : List ℕ). printed files fresh 1 (lines_of x)) e
    ∙ sym ((script_in_blocks files cs true t b (rw (← e) few)).in_all refl j)
