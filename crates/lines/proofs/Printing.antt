-- A walk prints the answers of the lines that it passes, each by the ledger as the line before left it, and leaves the others.
use Rattle.std.proofs.Common.{◌≡◌, ℕ, zero, suc, ◌+◌, ◌<◌, ◌≤◌, Bool, true, eqb, List, [], ◌∷◌, ◌++◌, length, take, drop, sym, refl, ap, ◌∙◌, subst, append_assoc, le_trans, lt_of_le_of_lt, mod-eq_of_lt, add-one, arith, length-append, length-take-le, drop-drop, take_at, eqb-true}
use lib.Seq.{sets, sets-eq, length-sets}
use borrow.Author.Tests.{eqb-false}
use Rattle.lists.proofs.Tests.{by_test}
use Rattle.lists.proofs.Parts.{drop_past}
use Rattle.notification.specs.Reading.{lines_in, read_file}
use Rattle.std.specs.Prelude.{Option, Some, None, ⊤}
use Rattle.session.specs.Lines.{Reading}
use Rattle.ledger.specs.Ledger.{Ledger}
use Rattle.ledger.specs.Call.{csv, read_form}
use Rattle.ledger.specs.Calls.{Outcome}
use Rattle.ledger.specs.declared.Entry.TheVariants.{SevenDays}
use Rattle.ledger.proofs.Steps.{step_file}
use Rattle.answers.specs.Values.{said_of}
use Rattle.answers.specs.declared.Said.{Said}
use Rattle.script.specs.Lines.{Asked, calls, file_of, engagement, record_of, unknown, filing, line_of}
use Rattle.script.specs.Answers.{answer_line, answer_put, answer_end}
use Rattle.lines.specs.Scripts.{lines_of, Files, Found, Line, called, line_says, name_of, answer, printed}
use Rattle.session.specs.Lines.{File}
use Rattle.lines.proofs.Blocks.{Reads}
use Rattle.lines.specs.Walking.{Walked, has_room, next, name_from, name_at, wanted, file_in, filed, says_read, stops, answered, walk}
use Rattle.lines.specs.declared.answering.Wants.{Wants}
use Rattle.lines.specs.declared.answering.Wants.TheVariants as Want
use Rattle.lines.specs.declared.answering.Wants.TheVariants.{Input, Room}
use Rattle.lines.proofs.Walks.{walk_none, walk_room, walk_file, walk_on}
use Rattle.lines.proofs.Cutting.{First, first_line_lem, of_first, cuts, cuts_first}

-- ---- what is put is printed

put_taken : (s v : List ℕ) (at : ℕ) → at + length v ≤ length s → take (at + length v) (sets s at v) ≡ take at s ++ v
put_taken s v at h =
    let l : length (take at s ++ v) ≡ at + length v = length-append (take at s) v ∙ ap (λ (k : ℕ). k + length v) (length-take-le at s (omega (arith, h))) in
    ap (take (at + length v)) (sets-eq v s at h) ∙ take_at (take at s ++ v) (drop (at + length v) s) (at + length v) l

module _ (output : List ℕ) (out n : ℕ) (said : Said) where
  pub end_more : out ≤ answer_end output out n said
  unfolding answer_end
  end_more =
      by_test (has_room output out) (λ t. rw t (omega arith)) (λ t. rw t (omega arith))

  pub put_long : length (answer_put output out n said) ≡ length output
  unfolding answer_put
  put_long =
      by_test (has_room output out) (λ t. rw t (length-sets output out (answer_line n said))) (λ t. rw t refl)

  -- an answer for which there is room stands behind those that wait
  pub put_behind : has_room output out ≡ true → answer_end output out n said ≤ length output →
      take (answer_end output out n said) (answer_put output out n said) ≡ take out output ++ answer_line n said
  unfolding answer_end answer_put
  put_behind e h = rw e (put_taken output (answer_line n said) out (rw e at h))

-- ---- a line is answered by its file, of which the reading is known; one that names no file is answered alike whatever is read

filed_says : (l : Ledger) (u name body : List ℕ) (x : Reading) → x ≡ read_file name body → filed l u x ≡ called l (filing u name body)
unfolding read_form
filed_says l u name body x e =
    ap (filed l u) e ∙ ap (λ (o : Outcome). record { ledger = o.ledger; said = said_of o.answer }) (sym (step_file l SevenDays u (csv name body)))

read_says : (l : Ledger) (file : File) (f : Found) (a : Asked) → Reads file (name_of a) f → says_read l file a ≡ line_says l f a
unfolding says_read line_says
read_says l file f (calls c) k = refl
read_says l None f (file_of submitter name) k = rw k refl
read_says l (Some x) f (file_of submitter name) k = rw k.0 (filed_says l submitter name f.body x k.1)
read_says l file f (engagement actor category day s) k = refl
read_says l file f (record_of asker id) k = refl
read_says l file f unknown k = refl

any_read : (n : ℕ) (l : Ledger) (file : File) (f : Found) (a : Asked) → name_from n a ≡ 0 → says_read l file a ≡ line_says l f a
unfolding says_read line_says
any_read n l file f (calls c) e = refl
any_read n l file f (file_of submitter name) e = absurd (omega (arith, e))
any_read n l file f (engagement actor category day s) e = refl
any_read n l file f (record_of asker id) e = refl
any_read n l file f unknown e = refl

-- the next number, where it fits in 64 bits
pub next_is : (n : ℕ) → n + 1 < 18446744073709551616 → next n ≡ suc n
next_is n h = mod-eq_of_lt h ∙ add-one n

pub some : (n : ℕ) → (n ≡ 0 → ⊥) → 0 < n
some zero f = absurd (f refl)
some (suc n) f = omega arith

-- ---- one line

-- what is known is known of the file of the next line, where it is given
abbrev pub Fits : Files → Option File → ℕ → List ℕ → Type 0
Fits files None n text = ⊤
Fits files (Some file) n text =
    (line : List ℕ) (ls : List (List ℕ)) → lines_in text ≡ line ∷ ls → Reads file (name_of (line_of line)) (files n (name_of (line_of line)))

module _ (files : Files) where
  -- a line that is answered is answered by its file, or names none
  its_answer : (given : Option File) (l : Ledger) (n : ℕ) (text line : List ℕ) (ls : List (List ℕ)) → lines_in text ≡ line ∷ ls →
      Fits files given n text → wanted given line ≡ 0 → says_read l (file_in given) (line_of line) ≡ answer files l n line
  unfolding name_at
  its_answer (Some file) l n text line ls e f k = read_says l file (files n (name_of (line_of line))) (line_of line) (f line ls e)
  its_answer None l n text line ls e f k = any_read (length line) l None (files n (name_of (line_of line))) (line_of line) k

  -- ---- the walk

  -- from a walk at a text to one at the rest of it: what was printed, and what is left
  pub record Passed (w : Walked) (text : List ℕ) (v : Walked) (rest : List ℕ) : Type 0 where
    -- what waits, and what is printed for the text and whatever comes behind it, is the same
    pub prints : (k : Bool) (more : List ℕ) →
        take w.out w.output ++ printed files w.ledger (suc w.number) (cuts k (text ++ more))
        ≡ take v.out v.output ++ printed files v.ledger (suc v.number) (cuts k (rest ++ more))
    pub fewer : v.number + length rest ≤ w.number + length text
    pub place : (input : List ℕ) → drop w.at input ≡ text → drop v.at input ≡ rest
    pub as_long : length v.output ≡ length w.output
    -- a text whose last line has its LF is left so
    pub whole : lines_of text ≡ lines_in text → lines_of rest ≡ lines_in rest

  pub stays : (w : Walked) (text : List ℕ) (want : Wants) → Passed w text (stops w want) text
  stays w text want = record { prints = λ k more. refl; fewer = omega arith; place = λ input e. e; as_long = refl; whole = λ e. e }

  -- what is left when more input is wanted, and when a file is
  pub record Stops (v : Walked) (rest : List ℕ) : Type 0 where
    pub idle : v.wants ≡ Input → lines_in rest ≡ []
    pub named : (from to : ℕ) → v.wants ≡ Want.File from to → (line : List ℕ) × (ls : List (List ℕ)) × (lines_in rest ≡ line ∷ ls) × (to ≡ v.at + length line)

  pub record Left (w : Walked) (text : List ℕ) (v : Walked) : Type 0 where
    pub rest : List ℕ
    pub passed : Passed w text v rest
    pub stop : Stops v rest

  pub out_grows : (given : Option File) (w : Walked) (ls : List (List ℕ)) → w.out ≤ (walk given w ls).out
  unfolding walk
  out_grows given w [] = omega arith
  out_grows given w (line ∷ ls) =
      by_test (has_room w.output w.out)
      (λ t.
      by_test (eqb (wanted given line) 0)
      (λ u. rw (t, u) (le_trans (end_more w.output w.out _ _) (out_grows None (answered given w line) ls)))
      (λ u. rw (t, u) (omega arith)))
      (λ t. rw t (omega arith))

  -- one line is passed
  one_line : (given : Option File) (w : Walked) (text line : List ℕ) (ls : List (List ℕ)) (x : First text line ls) → lines_in text ≡ line ∷ ls →
      Fits files given (suc w.number) text → wanted given line ≡ 0 → has_room w.output w.out ≡ true →
      w.number + length text < 18446744073709551616 → (answered given w line).out ≤ length w.output →
      Passed w text (answered given w line) x.rest
  unfolding printed
  one_line given w text line ls x e f k room few fits =
      let rest = x.rest in
      let n = suc w.number in
      let done = says_read w.ledger (file_in given) (line_of line) in
      let a : done ≡ answer files w.ledger n line = its_answer given w.ledger n text line ls e f k in
      let l : length text ≡ length line + suc (length rest) = ap length x.parts ∙ length-append line (10 ∷ rest) in
      let m : next w.number ≡ n = next_is w.number (omega (arith, few, l)) in
      record {
        prints = λ c more.
            let q : cuts c (text ++ more) ≡ line ∷ cuts c (rest ++ more) =
            ap (λ (t : List ℕ). cuts c (t ++ more)) x.parts ∙ ap (cuts c) (append_assoc line (10 ∷ rest) more) ∙ cuts_first c line (rest ++ more) x.unbroken in
            let both : Line → ℕ → List ℕ =
            λ d i. (take w.out w.output ++ answer_line i d.said) ++ printed files d.ledger (suc i) (cuts c (rest ++ more)) in
            let before : take w.out w.output ++ printed files w.ledger n (cuts c (text ++ more)) ≡ both (answer files w.ledger n line) n =
            ap (λ (ks : List (List ℕ)). take w.out w.output ++ printed files w.ledger n ks) q
            ∙ sym (append_assoc (take w.out w.output) (answer_line n (answer files w.ledger n line).said) (printed files (answer files w.ledger n line).ledger (suc n) (cuts c (rest ++ more)))) in
            before ∙ sym (ap (λ (d : Line). both d n) a) ∙ sym (ap (both done) m)
            ∙ ap (λ (t : List ℕ). t ++ printed files done.ledger (suc (next w.number)) (cuts c (rest ++ more)))
            (sym (put_behind w.output w.out (next w.number) done.said room fits));
        fewer = omega (arith, m, l);
        place = λ input h.
            sym (drop-drop (length line + 1) w.at input) ∙ ap (drop (length line + 1)) (h ∙ x.parts) ∙ drop_past line 10 rest (length line + 1) refl;
        as_long = put_long w.output w.out (next w.number) done.said;
        whole = λ h.
            let q : lines_of text ≡ line ∷ lines_of rest = ap lines_of x.parts ∙ of_first line rest x.unbroken in
            let r : line ∷ lines_of rest ≡ line ∷ ls = sym q ∙ h ∙ e in
            let t : lines_of rest ≡ ls = cc in
            t ∙ sym x.others;
      }

  joined : {w : Walked} {text : List ℕ} {v : Walked} {rest : List ℕ} {u : Walked} {last : List ℕ} → Passed w text v rest → Passed v rest u last → Passed w text u last
  joined p q =
      record {
        prints = λ k more. p.prints k more ∙ q.prints k more;
        fewer = le_trans q.fewer p.fewer;
        place = λ input e. q.place input (p.place input e);
        as_long = q.as_long ∙ p.as_long;
        whole = λ e. q.whole (p.whole e);
      }

  -- ---- where it stops

  left_input : (w : Walked) (text : List ℕ) → lines_in text ≡ [] → Left w text (stops w Input)
  left_input w text e =
      record { rest = text; passed = stays w text Input; stop = record { idle = λ q. e; named = λ from to q. let z : ◌≡◌ {A = ℕ} 0 1 = cc in absurd (omega arith) } }

  left_room : (w : Walked) (text : List ℕ) → Left w text (stops w Room)
  left_room w text =
      record {
        rest = text;
        passed = stays w text Room;
        stop = record {
          idle = λ q. let z : ◌≡◌ {A = ℕ} 0 1 = cc in absurd (omega arith);
          named = λ from to q. let z : ◌≡◌ {A = ℕ} 0 1 = cc in absurd (omega arith);
        };
      }

  left_file : (w : Walked) (text line : List ℕ) (ls : List (List ℕ)) (from to : ℕ) → lines_in text ≡ line ∷ ls → to ≡ w.at + length line → Left w text (stops w (Want.File from to))
  left_file w text line ls from to e k =
      record {
        rest = text;
        passed = stays w text (Want.File from to);
        stop = record {
          idle = λ q. let z : ◌≡◌ {A = ℕ} 0 1 = cc in absurd (omega arith);
          named = λ a b q. let r : to ≡ b = cc in (line, ls, e, sym r ∙ k);
        };
      }

  left_on : {w : Walked} {text : List ℕ} {v : Walked} {rest : List ℕ} {u : Walked} → Passed w text v rest → Left v rest u → Left w text u
  left_on p l = record { rest = l.rest; passed = joined p l.passed; stop = l.stop }

  -- WHAT A WALK PRINTS
  pub walk_prints : (given : Option File) (w : Walked) (text : List ℕ) (ls : List (List ℕ)) → lines_in text ≡ ls → Fits files given (suc w.number) text →
      w.number + length text < 18446744073709551616 → (walk given w ls).out ≤ length w.output → Left w text (walk given w ls)
  walk_prints given w text [] e f few fits = subst (Left w text) (sym (walk_none given w)) (left_input w text e)
  walk_prints given w text (line ∷ ls) e f few fits =
      by_test (has_room w.output w.out)
      (λ t.
      by_test (eqb (wanted given line) 0)
      (λ u.
      let v = answered given w line in
      let x = first_line_lem text line ls e in
      let on = walk_on given w line ls v t (eqb-true (wanted given line) 0 u) refl in
      let g : (walk None v ls).out ≤ length w.output = subst (λ (y : Walked). y.out ≤ length w.output) on fits in
      let one = one_line given w text line ls x e f (eqb-true (wanted given line) 0 u) t few (le_trans (out_grows None v ls) g) in
      let later =
      walk_prints None v x.rest ls x.others tt (lt_of_le_of_lt one.fewer few)
      (subst (λ (i : ℕ). (walk None v ls).out ≤ i) (sym one.as_long) g) in
      subst (Left w text) (sym on) (left_on one later))
      (λ u.
      subst (Left w text) (sym (walk_file given w line ls t (some (wanted given line) (eqb-false (wanted given line) 0 u))))
      (left_file w text line ls (w.at + wanted given line) (w.at + length line) e refl)))
      (λ t. subst (Left w text) (sym (walk_room given w line ls t)) (left_room w text))
