-- EVERY CUT HAS A RUN: for every name and all pieces there are file readers, one after another, and a result at the end, that meet what
-- `begin`, `feed` and `end` ensure. So what is shown of every run is shown of every cut, and no contract asks for what can't be.
use denote.Ref.{Bor}
use mathlib.Core.Path.{◌≡◌, refl, sym, ap, ◌∙◌}
use mathlib.Core.List.{List, [], ◌∷◌, ◌++◌, append-nil, append_assoc}
use mathlib.Core.Bool.{◌&&◌}
use Prim.Native.Nat.{ℕ, ◌+◌, ◌≤◌, min}
use native.Mathlib.Omega.{arith}
use lib.Dec.{leb, eqb}
use lib.ListN.{length, take, drop, replicate, length-append, length-take, length-set}
use lib.Seq.{take-take, take-append_seam}
use Rattle.lists.specs.Searches.{byte_from}
use Rattle.lists.proofs.Tests.{by_test}
use Rattle.calendar.proofs.StepCounts.{steps_small}
use Rattle.std.specs.Prelude.{Result}
use Rattle.refusals.specs.declared.Refusal.{Refusal}
use Rattle.notification.specs.Forms.{filled, places}
use Rattle.notification.specs.Writing.{header_of}
use Rattle.notification.specs.Reading.{name_key, is_name, lines_in, body_most}
use Rattle.notification.specs.declared.Notification.{Notification}
use Rattle.reader.specs.Walking.{line_power}
use Rattle.reader.specs.Folding.{
  Taken,
  is_over,
  judged,
  first_line,
  take_step,
  FileTaken,
  headed_by,
  past_header,
  take_line,
  take_lines,
  take_text,
  rest_of_text,
}
use Rattle.reader.specs.InHand.{InHand, in_hand, begun, length_with, has_name, counts, walked, gone_on, continued, fed, ended}
use Rattle.reader.specs.declared.pieces.FileReader.{FileReader}
use Rattle.reader.specs.declared.tally.StepFault.{StepFault}
use Rattle.reader.specs.declared.tally.StepFault.TheVariants.{NoLabels, NoPower}
use Rattle.std.specs.Prelude.{Result, Ok, Err}
use Rattle.notification.proofs.Lengths.{header_between}
use Rattle.notification.proofs.Names.{name_back}
use Rattle.notification.proofs.Stored.{filled_length}
use Rattle.reader.proofs.InPieces.{fed_none, fed_first, fed_on, Fed, begins, feeds, Ends, ends}

-- ---- the powers stay in their places

abbrev count : FileTaken → ℕ
count x = length x.steps.powers

judged_count : (x : Taken) (said : Result ℕ StepFault) → length (judged first_line x said).powers ≡ length x.powers
judged_count x (Ok p) = length-set x.powers x.tally.lines p
judged_count x (Err NoLabels) = refl
judged_count x (Err NoPower) = refl

module _ (steps : ℕ) where
  step_count_lem : (x : Taken) (l : List ℕ) → length (take_step steps x l).powers ≡ length x.powers
  unfolding take_step
  step_count_lem x l = by_test (is_over steps x.tally) (λ t. rw t) (λ t. rw t (judged_count x (line_power steps x.tally.lines l)))

  line_count : (x : FileTaken) (l : List ℕ) → count (take_line steps x l) ≡ count x
  unfolding take_line
  line_count x l =
      by_test (eqb x.header 0)
      (λ t. rw t)
      (λ t. by_test (eqb x.header 1) (λ u. rw (t, u) (step_count_lem x.steps l)) (λ u. rw (t, u)))

  lines_count : (x : FileTaken) (ls : List (List ℕ)) → count (take_lines steps x ls) ≡ count x
  unfolding take_lines
  lines_count x [] = refl
  lines_count x (l ∷ ls) = lines_count (take_line steps x l) ls ∙ line_count x l

  text_count : (header : List ℕ) (x : FileTaken) (s : List ℕ) → count (take_text header steps x s) ≡ count x
  unfolding take_text
  text_count header x s =
      lines_count (record { header = headed_by header x.header s; steps = x.steps }) (lines_in (past_header header x.header s))

-- ---- what is kept has its places in a file reader

pub record Fits (x : InHand) : Type 0 where
  pub steps : x.steps ≤ places
  pub header : length x.header ≤ 51
  pub powers : count x.taken ≡ places
  pub line : length x.line ≤ 64

begun_fits : (name : List ℕ) → Fits (begun name)
unfolding begun
begun_fits name =
    let k = name_key name in
    by_test (is_name name)
    (λ t. let w = header_between k (name_back name t).its_form in
    rw t (record { steps = steps_small k.day; header = omega (arith, length-append (header_of k) (10 ∷ [])); powers = refl; line = omega arith }))
    (λ t. rw t (record { steps = steps_small 0; header = omega arith; powers = refl; line = omega arith }))

held_few : (s : List ℕ) → length (take 64 s) ≤ 64
held_few s = omega (arith, length-take 64 s)

module _ (x : InHand) (f : Fits x) where
  walked_fits : (n : ℕ) (t : FileTaken) (s : List ℕ) → count t ≡ places → Fits (walked x n t s)
  unfolding walked
  walked_fits n t s e =
      record {
        steps = f.steps;
        header = f.header;
        powers = text_count x.steps x.header t s ∙ e;
        line = held_few (rest_of_text x.header t.header s);
      }

  continued_fits : (n : ℕ) (p : List ℕ) (e : ℕ) → Fits (continued x n p e)
  unfolding continued gone_on
  continued_fits n p e =
      let s = take 64 (x.line ++ take e p) ++ 10 ∷ [] in
      let u = take_text x.header x.steps x.taken s in
      by_test (leb (length p) e)
      (λ t. rw t (record { steps = f.steps; header = f.header; powers = f.powers; line = held_few (x.line ++ take e p) }))
      (λ t. rw t (walked_fits n u (drop (e + 1) p) (text_count x.steps x.header x.taken s ∙ f.powers)))

  fed_fits : (p : List ℕ) → Fits (fed x p)
  unfolding counts
  fed_fits p =
      let n = length_with x.length p in
      by_test (has_name x.header && leb n body_most)
      (λ t. by_test (eqb (length x.line) 0)
      (λ u. rw (fed_first x p t u) (walked_fits n x.taken p f.powers))
      (λ u. rw (fed_on x p t u) (continued_fits n p (byte_from 10 p 0))))
      (λ t. rw (fed_none x p t) (record { steps = f.steps; header = f.header; powers = f.powers; line = f.line }))

-- THE FILE READER that keeps it, with each array in its places
abbrev pub keeping : InHand → FileReader
keeping x =
    record {
      day = x.day;
      steps = x.steps;
      named = length x.header;
      length = x.length;
      tally = record { header = x.taken.header; steps = x.taken.steps.tally };
      powers = x.taken.steps.powers;
      held = length x.line;
      line = filled 64 x.line;
      header = filled 51 x.header;
    }

filled_back : (n : ℕ) (s : List ℕ) → length s ≤ n → take (length s) (filled n s) ≡ s
filled_back n s h = take-take (length s) n (s ++ replicate n 0) h ∙ take-append_seam s (replicate n 0)

keeps : (x : InHand) → Fits x → in_hand (keeping x) ≡ x
keeps x f =
    let s : min x.steps places ≡ x.steps = let h = f.steps in omega arith in
    let h = filled_back 51 x.header f.header in
    let l = filled_back 64 x.line f.line in
    λ i. record { day = x.day; steps = s i; header = h i; length = x.length; taken = x.taken; line = l i }

-- ---- every cut

abbrev ref : {X : Type 0} → X → Bor X
ref x = record { ref_ptr = (0, 0); now = x }

-- a file reader that was fed the pieces, with each array in its places
pub record Run (name : List ℕ) (ps : List (List ℕ)) : Type 1 where
  pub reader : FileReader
  pub fed : Fed name ps reader
  pub header_places : length reader.header ≡ 51
  pub powers_places : length reader.powers ≡ places
  pub line_places : length reader.line ≡ 64

run_on : (name : List ℕ) (qs ps : List (List ℕ)) (x : InHand) → Fits x → Fed name qs (keeping x) → Run name (qs ++ ps)
run_on name qs [] x f d =
    rw (append-nil qs)
    (record {
      reader = keeping x;
      fed = d;
      header_places = filled_length 51 x.header;
      powers_places = f.powers;
      line_places = filled_length 64 x.line;
    })
run_on name qs (p ∷ ps) x f d =
    let y = fed x p in
    let g = fed_fits x f p in
    let e : in_hand (keeping y) ≡ fed (in_hand (keeping x)) p = keeps y g ∙ ap (λ (z : InHand). fed z p) (sym (keeps x f)) in
    rw append_assoc at (run_on name (qs ++ p ∷ []) ps y g (feeds ([], tt) (keeping x, (ref p, tt)) (keeping y) (keeping x, (ref p, tt)) d (λ t. e)))

-- WHATEVER THE NAME AND THE PIECES, THERE IS A RUN, and its end gives a result
pub every_cut_runs : (name : List ℕ) (ps : List (List ℕ)) → (d : Run name ps) × ((r : Result Notification Refusal) × Ends d.reader r)
every_cut_runs name ps =
    let x = begun name in
    let f = begun_fits name in
    let d = run_on name [] ps x f (begins ([], tt) (ref name, tt) (keeping x) (ref name, tt) (λ t. keeps x f)) in
    (d, (ended (in_hand d.reader), ends (d.reader, tt) (ended (in_hand d.reader)) (d.reader, tt) (λ t. refl)))
