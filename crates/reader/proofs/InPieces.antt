-- A FILE IN PIECES: however its body is cut, what the end gives is what reading the body whole gives.
use borrow.Fn.Kinds
use borrow.Fn.World
use denote.Triple.Clauses
use contract.Lifetimes
use mathlib.Core.Path.{◌≡◌, refl, sym, ap, ◌∙◌}
use mathlib.Core.Bool.{true, false, ◌&&◌}
use mathlib.Core.List.{List, [], ◌∷◌, ◌++◌, append-nil, append_assoc}
use Prim.Native.Nat.{ℕ, ◌+◌, ◌-◌, ◌<◌, ◌≤◌, min}
use native.Mathlib.Omega.{arith}
use lib.Dec.{leb, ltb, eqb}
use lib.ListN.{length, get_or, take, drop, length-append, length-drop}
use lib.Seq.{take_all, take_at, take-append-le, drop-append-le}
use borrow.Author.Tests.{eqb-true, leb-true, leb-false, le-leb, ltb-true, lt-ltb}
use Rattle.lists.specs.Searches.{every, byte_from}
use Rattle.lists.proofs.Tests.{by_test, and_left, and_right, and_true}
use Rattle.lists.proofs.Searches.{every_append, every_take}
use Rattle.calendar.specs.Steps.{steps_of}
use Rattle.std.specs.Prelude.{Result}
use Rattle.refusals.specs.declared.Refusal.{Refusal}
use Rattle.notification.specs.Forms.{six_bytes}
use Rattle.notification.specs.Writing.{key_text, header_of, formed}
use Rattle.notification.specs.Reading.{key_in, name_key, is_name, lines_in, body_most, is_body, read_file}
use Rattle.notification.specs.declared.Key.{Key}
use Rattle.notification.specs.declared.Notification.{Notification}
use Rattle.reader.specs.Walking.{whole_to, rest_in}
use Rattle.reader.specs.Folding.{FileTaken, no_lines, take_text}
use Rattle.reader.specs.InHand.{
  InHand,
  in_hand,
  begun,
  held_most,
  too_many,
  length_with,
  has_name,
  counts,
  walked,
  gone_on,
  continued,
  fed,
  key_of,
  ended,
  fed_all,
  joined_pieces,
}
use Rattle.reader.specs.declared.pieces.FileReader.{FileReader}
use Rattle.reader.proofs.pieces.FileReader.begin.Reads as begin-reads
use Rattle.reader.proofs.pieces.FileReader.feed.Reads as feed-reads
use Rattle.reader.proofs.pieces.FileReader.end.Reads as end_reads
use Rattle.reader.specs.contracts.pieces.FileReader.begin as begin-fn
use Rattle.reader.specs.contracts.pieces.FileReader.feed as feed-fn
use Rattle.reader.specs.contracts.pieces.FileReader.end as end-fn
use Rattle.reader.proofs.pieces.FileReader.begin.Kinds as begin-kinds
use Rattle.reader.proofs.pieces.FileReader.feed.Kinds as feed-kinds
use Rattle.reader.proofs.pieces.FileReader.end.Kinds as end-kinds
use Rattle.notification.proofs.Lines.{in_line, lines_first}
use Rattle.notification.proofs.Lengths.{formed_parts, key_length, header_between}
use Rattle.notification.proofs.Names.{key_read_lem, name_back}
use Rattle.notification.proofs.Breaks.{header_in}
use Rattle.reader.proofs.Ends.{lines_none, none_whole}
use Rattle.reader.proofs.Cuts.{lines_append, rest_append, rest_break, rest_in_lem, rest_ended, rest_empty, first_in, first_split, take_both}
use Rattle.reader.proofs.Heading.{line_under, lines_under, under_append, under_cons, rest_text, text_lines, cut_line}
use Rattle.reader.proofs.Table.{row_name, row_body, row_lines}

-- ---- what a piece leaves as it was, and the length

pub record Goes (x y : InHand) (n : ℕ) : Type 0 where
  pub day : y.day ≡ x.day
  pub steps : y.steps ≡ x.steps
  pub header : y.header ≡ x.header
  pub length : y.length ≡ n

walked_goes : (x : InHand) (n : ℕ) (t : FileTaken) (s : List ℕ) → Goes x (walked x n t s) n
unfolding walked
walked_goes x n t s = record { day = refl; steps = refl; header = refl; length = refl }

continued_goes : (x : InHand) (n : ℕ) (p : List ℕ) (e : ℕ) → Goes x (continued x n p e) n
unfolding continued
continued_goes x n p e =
    by_test (leb (length p) e)
    (λ t. rw t (record { day = refl; steps = refl; header = refl; length = refl }))
    (λ t. rw t (walked_goes x n (take_text x.header x.steps x.taken (gone_on x.line p e ++ 10 ∷ [])) (drop (e + 1) p)))

module _ (x : InHand) (p : List ℕ) where
  abbrev total : ℕ
  total = length_with x.length p

  pub fed_none : (has_name x.header && leb total body_most) ≡ false → fed x p ≡ counts x total
  unfolding fed
  fed_none t = rw t

  pub fed_first : (has_name x.header && leb total body_most) ≡ true → eqb (length x.line) 0 ≡ true → fed x p ≡ walked x total x.taken p
  unfolding fed
  fed_first t u = rw (t, u)

  pub fed_on : (has_name x.header && leb total body_most) ≡ true → eqb (length x.line) 0 ≡ false → fed x p ≡ continued x total p (byte_from 10 p 0)
  unfolding fed
  fed_on t u = rw (t, u)

  fed_goes : Goes x (fed x p) total
  unfolding counts
  fed_goes =
      by_test (has_name x.header && leb total body_most)
      (λ t. by_test (eqb (length x.line) 0)
      (λ u. rw (fed_first t u) (walked_goes x total x.taken p))
      (λ u. rw (fed_on t u) (continued_goes x total p (byte_from 10 p 0))))
      (λ t. rw (fed_none t) (record { day = refl; steps = refl; header = refl; length = refl }))

-- ---- the lines of two texts, under a header

module _ (head : List ℕ) (steps : ℕ) (s p : List ℕ) where
  abbrev before : FileTaken
  before = lines_under head steps no_lines (lines_in s)

  both_lines : lines_under head steps no_lines (lines_in (s ++ p)) ≡ lines_under head steps before (lines_in (rest_in s ++ p))
  both_lines = ap (lines_under head steps no_lines) (lines_append s p) ∙ under_append head steps no_lines (lines_in s) (lines_in (rest_in s ++ p))

under_none : (head : List ℕ) (steps : ℕ) (x : FileTaken) → lines_under head steps x [] ≡ x
unfolding lines_under
under_none head steps x = refl

one_under : (head : List ℕ) (steps : ℕ) (x : FileTaken) (l : List ℕ) → lines_under head steps x (l ∷ lines_in []) ≡ line_under head steps x l
unfolding lines_under lines_in
one_under head steps x l = refl

-- WHAT IS KEPT AFTER A TEXT: of one that is not too long, what its lines come to and the beginning of its unfinished line
pub record Shown (head : List ℕ) (steps : ℕ) (s : List ℕ) (t : FileTaken) (l : List ℕ) : Type 0 where
  pub its_taken : t ≡ lines_under head steps no_lines (lines_in s)
  pub its_line : l ≡ take held_most (rest_in s)

pub record Kept (head : List ℕ) (day steps : ℕ) (s : List ℕ) (x : InHand) : Type 0 where
  pub its_day : x.day ≡ day
  pub its_steps : x.steps ≡ steps
  pub its_header : x.header ≡ head ++ 10 ∷ []
  pub its_length : x.length ≡ min (length s) too_many
  pub its_lines : length s ≤ body_most → Shown head steps s x.taken x.line

-- ---- a piece more

module _ (head : List ℕ) (day steps : ℕ) (plain : every in_line head ≡ true) (least : 49 ≤ length head) (few : length head ≤ 50) where
  named_has : has_name (head ++ 10 ∷ []) ≡ true
  named_has = le-leb 50 (length (head ++ 10 ∷ [])) (omega (arith, length-append head (10 ∷ [])))

  module _ (x : InHand) (h : x.header ≡ head ++ 10 ∷ []) (g : x.steps ≡ steps) where
    -- a text that begins where a line does
    walked_shows : (n : ℕ) (t : FileTaken) (u w : List ℕ) → lines_under head steps t (lines_in u) ≡ lines_under head steps no_lines (lines_in w)
        → rest_in u ≡ rest_in w → Shown head steps w (walked x n t u).taken (walked x n t u).line
    unfolding walked
    walked_shows n t u w p q =
        rw (h, g)
        (record {
          its_taken = text_lines head u steps plain t ∙ p;
          its_line = ap (take held_most) (rest_text head u t.header ∙ q);
        })

    module _ (s p : List ℕ) (k : Shown head steps s x.taken x.line) where
      abbrev r : List ℕ
      r = rest_in s

      abbrev e : ℕ
      e = byte_from 10 p 0

      gone_on_lem : gone_on x.line p e ≡ take 64 (r ++ take e p)
      unfolding gone_on
      gone_on_lem = ap (λ (l : List ℕ). take 64 (l ++ take e p)) k.its_line ∙ take_both 64 r (take e p)

      line_in : every in_line (r ++ take e p) ≡ true
      line_in = every_append in_line r (take e p) (rest_in_lem s) (first_in p e refl)

      first_shows : (n : ℕ) → eqb (length x.line) 0 ≡ true
          → Shown head steps (s ++ p) (walked x n x.taken p).taken (walked x n x.taken p).line
      first_shows n z =
          let l = ap length k.its_line in
          let c = eqb-true (length x.line) 0 z in
          let o : r ≡ [] = rest_empty s (omega arith) in
          let q : r ++ p ≡ p = ap (λ (u : List ℕ). u ++ p) o in
          walked_shows n x.taken p (s ++ p)
          (ap (λ (t : FileTaken). lines_under head steps t (lines_in p)) k.its_taken
          ∙ (ap (λ (u : List ℕ). lines_under head steps (before head steps s p) (lines_in u)) (sym q) ∙ sym (both_lines head steps s p)))
          (ap rest_in (sym q) ∙ sym (rest_append s p))

      -- where the piece has no LF
      grown_shows : length p ≤ e → Shown head steps (s ++ p) x.taken (gone_on x.line p e)
      grown_shows o =
          let a = take_all e p o in
          let i : every in_line (r ++ p) ≡ true = rw a at line_in in
          let w = none_whole (r ++ p) i in
          let none = lines_none (r ++ p) w in
          let b = before head steps s p in
          let q : rest_in (s ++ p) ≡ r ++ p = rest_append s p ∙ ap (λ (j : ℕ). drop j (r ++ p)) w in
          record {
            its_taken = k.its_taken ∙ sym (both_lines head steps s p ∙ (ap (lines_under head steps b) none ∙ under_none head steps b));
            its_line = gone_on_lem ∙ ap (λ (u : List ℕ). take 64 (r ++ u)) a ∙ ap (take 64) (sym q);
          }

      -- where it has one: the line in hand ends there
      module _ (o : e < length p) where
        abbrev l : List ℕ
        l = r ++ take e p

        abbrev d : List ℕ
        d = drop (e + 1) p

        parted : r ++ p ≡ l ++ 10 ∷ d
        parted = ap (λ (u : List ℕ). r ++ u) (first_split p e refl o) ∙ sym (append_assoc r (take e p) (10 ∷ d))

        line_taken : take_text x.header x.steps x.taken (gone_on x.line p e ++ 10 ∷ []) ≡ line_under head steps (before head steps s p) l
        line_taken =
            let b = before head steps s p in
            let c = take 64 l in
            rw (h, g, k.its_taken, gone_on_lem)
            (text_lines head (c ++ 10 ∷ []) steps plain b
            ∙ ap (lines_under head steps b) (lines_first c [] (every_take in_line 64 l line_in))
            ∙ one_under head steps b c
            ∙ cut_line head steps b l few)

        ended_shows : (n : ℕ) → let t = take_text x.header x.steps x.taken (gone_on x.line p e ++ 10 ∷ []) in
            Shown head steps (s ++ p) (walked x n t d).taken (walked x n t d).line
        ended_shows n =
            let b = before head steps s p in
            let t = take_text x.header x.steps x.taken (gone_on x.line p e ++ 10 ∷ []) in
            walked_shows n t d (s ++ p)
            (sym
            (both_lines head steps s p
            ∙ ap (lines_under head steps b) (ap lines_in parted ∙ lines_first l d line_in)
            ∙ under_cons head steps b t l (lines_in d) (sym line_taken)))
            (sym (rest_append s p ∙ ap rest_in parted ∙ rest_break l d))

      continued_shows : (n : ℕ) → Shown head steps (s ++ p) (continued x n p e).taken (continued x n p e).line
      unfolding continued
      continued_shows n =
          by_test (leb (length p) e)
          (λ t. rw t (grown_shows (leb-true (length p) e t)))
          (λ t. rw t (ended_shows (leb-false (length p) e t) n))

  -- ONE PIECE MORE
  piece_more : (s p : List ℕ) (x : InHand) → Kept head day steps s x → Kept head day steps (s ++ p) (fed x p)
  piece_more s p x k =
      let g = fed_goes x p in
      let n = length-append s p in
      record {
        its_day = g.day ∙ k.its_day;
        its_steps = g.steps ∙ k.its_steps;
        its_header = g.header ∙ k.its_header;
        its_length = g.length ∙ lengths;
        its_lines = lines;
      }
    where
      lengths : length_with x.length p ≡ min (length (s ++ p)) too_many
      lengths = let m = k.its_length in omega (arith, length-append s p)

      lines : length (s ++ p) ≤ body_most → Shown head steps (s ++ p) (fed x p).taken (fed x p).line
      lines h =
          let n = length_with x.length p in
          let z : length s ≤ body_most = omega (arith, length-append s p) in
          let w = k.its_lines z in
          let y : has_name x.header ≡ true = rw k.its_header named_has in
          let o = and_true (has_name x.header) (leb n body_most) y (le-leb n body_most (omega (arith, lengths))) in
          by_test (eqb (length x.line) 0)
          (λ u. rw (fed_first x p o u) (first_shows x k.its_header k.its_steps s p w n u))
          (λ u. rw (fed_on x p o u) (continued_shows x k.its_header k.its_steps s p w n))

  -- PIECES ONE AFTER ANOTHER
  pieces_more : (s : List ℕ) (x : InHand) (ps : List (List ℕ)) → Kept head day steps s x
      → Kept head day steps (s ++ joined_pieces ps) (fed_all x ps)
  unfolding fed_all
  pieces_more s x [] k = rw (append-nil s) k
  pieces_more s x (p ∷ ps) k = rw append_assoc at (pieces_more (s ++ p) (fed x p) ps (piece_more s p x k))

-- ---- the end

-- the key stands in its header's line
key_back : (k : Key) → formed k ≡ true → k.day < 36525 → length k.category ≡ 6 → key_of (header_of k ++ 10 ∷ []) k.day ≡ k
unfolding header_of key_in
key_back k f h n =
    let s = key_text 59 k in
    let u : List ℕ = 59 ∷ 10 ∷ [] in
    let p = formed_parts k f in
    let l = key_length 59 k f in
    let m = length (s ++ u) - 2 in
    let d = length-drop 17 s in
    let e = key_read_lem 59 k f h n in
    let p1 : take 16 (s ++ u) ≡ k.ceder = take-append-le 16 s u (omega arith) ∙ ap (λ (x : Key). x.ceder) e in
    let v = drop-append-le 17 s u (omega arith) in
    let a = ap (take 16) v ∙ take-append-le 16 (drop 17 s) u (omega arith) in
    let p2 : take 16 (drop 17 (s ++ u)) ≡ k.acquirer = a ∙ ap (λ (x : Key). x.acquirer) e in
    let c : take m (s ++ u) ≡ s = take_at s u m (omega (arith, length-append s u)) in
    let p3 : six_bytes (drop 43 (take m (s ++ u))) ≡ k.category = ap (λ (t : List ℕ). six_bytes (drop 43 t)) c ∙ ap (λ (x : Key). x.category) e in
    let q : key_of (s ++ u) k.day ≡ k = λ i. record { ceder = p1 i; acquirer = p2 i; category = p3 i; day = k.day } in
    ap (λ (t : List ℕ). key_of t k.day) (append_assoc s (59 ∷ []) (10 ∷ [])) ∙ q

module _ (name : List ℕ) (a : is_name name ≡ true) where
  abbrev key : Key
  key = name_key name

  abbrev head : List ℕ
  head = header_of key

  abbrev KeptOf : List ℕ → InHand → Type 0
  KeptOf = Kept head key.day (steps_of key.day)

  begun_kept : KeptOf [] (begun name)
  unfolding begun lines_in lines_under whole_to
  begun_kept =
      rw a
      (record {
        its_day = refl;
        its_steps = refl;
        its_header = refl;
        its_length = refl;
        its_lines = λ h. record { its_taken = refl; its_line = refl };
      })

  module _ (s : List ℕ) (x : InHand) (k : KeptOf s x) where
    -- the body is one: it isn't empty nor too long, and no line is unfinished
    body_kept : (ltb 0 x.length && leb x.length body_most && eqb (length x.line) 0) ≡ is_body s
    unfolding is_body
    body_kept =
        let m = k.its_length in
        by_test (leb (length s) body_most)
        (λ t. let z = leb-true (length s) body_most t in
        let n : x.length ≡ length s = omega arith in
        let l = (k.its_lines z).its_line in
        by_test (ltb 0 (length s))
        (λ u. rw (n, l, u, t) (rest_ended s (ltb-true 0 (length s) u)))
        (λ u. rw (n, u)))
        (λ t. let z = leb-false (length s) body_most t in
        let n : x.length ≡ too_many = omega arith in
        rw (n, t, lt-ltb 0 (length s) (omega arith)))

    body_few : is_body s ≡ true → length s ≤ body_most
    unfolding is_body
    body_few b =
        let c = ltb 0 (length s) in
        let d = leb (length s) body_most in
        leb-true (length s) body_most (and_right c d (and_left (c && d) (eqb (get_or s (length s - 1) 0) 10) b))

    ended_reads : ended x ≡ read_file name s
    unfolding ended
    ended_reads =
        let b = name_back name a in
        let w = header_between key b.its_form in
        let o = named_has head key.day (steps_of key.day) (header_in key b.its_form b.its_day) w.0 w.1 in
        by_test (is_body s)
        (λ t. let q = key_back key b.its_form b.its_day b.its_six in
        rw (k.its_header, o, body_kept ∙ t, k.its_day, k.its_steps, (k.its_lines (body_few t)).its_taken, q) (row_lines name s a t))
        (λ t. rw (k.its_header, o, body_kept ∙ t) (row_body name s a t))

  named_pieces : (ps : List (List ℕ)) → ended (fed_all (begun name) ps) ≡ read_file name (joined_pieces ps)
  named_pieces ps =
      let b = name_back name a in
      let w = header_between key b.its_form in
      let plain = header_in key b.its_form b.its_day in
      ended_reads (joined_pieces ps) (fed_all (begun name) ps)
      (pieces_more head key.day (steps_of key.day) plain w.0 w.1 [] (begun name) ps begun_kept)

-- a name that is none stays none
header_kept : (x : InHand) (ps : List (List ℕ)) → (fed_all x ps).header ≡ x.header
unfolding fed_all
header_kept x [] = refl
header_kept x (p ∷ ps) = header_kept (fed x p) ps ∙ (fed_goes x p).header

unnamed_pieces : (name : List ℕ) → is_name name ≡ false → (ps : List (List ℕ)) → ended (fed_all (begun name) ps) ≡ read_file name (joined_pieces ps)
unfolding ended begun
unnamed_pieces name a ps =
    let h : (fed_all (begun name) ps).header ≡ [] = header_kept (begun name) ps ∙ rw a in
    rw h (row_name name (joined_pieces ps) a)

-- THE THEOREM: whatever the pieces, the end gives what reading the body whole gives
pub in_pieces : (name : List ℕ) (ps : List (List ℕ)) → ended (fed_all (begun name) ps) ≡ read_file name (joined_pieces ps)
in_pieces name ps = by_test (is_name name) (λ a. named_pieces name a ps) (λ a. unnamed_pieces name a ps)

-- so where a body is cut makes no difference
pub cut_anywhere : (name : List ℕ) (ps qs : List (List ℕ)) → joined_pieces ps ≡ joined_pieces qs
    → ended (fed_all (begun name) ps) ≡ ended (fed_all (begun name) qs)
cut_anywhere name ps qs e = in_pieces name ps ∙ ap (read_file name) e ∙ sym (in_pieces name qs)

-- a body in one piece
pub one_piece : (name body : List ℕ) (b f : FileReader) (r : Result Notification Refusal) → in_hand b ≡ begun name → in_hand f ≡ fed (in_hand b) body → r ≡ ended (in_hand f)
    → r ≡ read_file name body
unfolding fed_all
one_piece name body b f r p q e =
    e ∙ ap ended (q ∙ ap (λ (x : InHand). fed x body) p) ∙ in_pieces name (body ∷ []) ∙ ap (read_file name) (append-nil body)

-- ---- THE THEOREM OF THE CODE: each step is what the called function ensures where what it asks holds, as Rattle reads both off the source

-- A FILE READER after the pieces that it was fed since it was begun with a name
pub data Fed : List ℕ → List (List ℕ) → FileReader → Type 1 where
  begins : (κs : Lifetimes.Lfts 1) (a : World.ArgsD begin-fn.signature κs) (b : FileReader)
      (s : Clauses.AtExit (Kinds.ended_of 1 begin-kinds.ps begin-kinds.r) κs) → (begin-reads.Asked κs a → begin-reads.Post κs a b s) →
      Fed a.0.now [] b
  feeds : {name : List ℕ} {ps : List (List ℕ)} (κs : Lifetimes.Lfts 1) (a : World.ArgsD feed-fn.signature κs) (b : FileReader)
      (s : Clauses.AtExit (Kinds.ended_of 1 feed-kinds.ps feed-kinds.r) κs) → Fed name ps a.0 → (feed-reads.Asked κs a → feed-reads.Post κs a b s) →
      Fed name (ps ++ a.1.0.now ∷ []) b

-- its end, and what that gives
pub data Ends : FileReader → Result Notification Refusal → Type 1 where
  ends : (a : World.ArgsD end-fn.signature tt) (r : Result Notification Refusal) (s : Clauses.AtExit (Kinds.ended_of 0 end-kinds.ps end-kinds.r) tt) →
      (end_reads.Asked tt a → end_reads.Post tt a r s) → Ends a.0 r

-- NONE OF THE THREE ASKS ANYTHING OF ITS CALLER
pub record AsksNothing : Type 1 where
  pub begin : (κs : Lifetimes.Lfts 1) (a : World.ArgsD begin-fn.signature κs) → begin-reads.Asked κs a
  pub feed : (κs : Lifetimes.Lfts 1) (a : World.ArgsD feed-fn.signature κs) → feed-reads.Asked κs a
  pub end : (a : World.ArgsD end-fn.signature tt) → end_reads.Asked tt a

pub asks_nothing : AsksNothing
asks_nothing = record { begin = λ κs a. tt; feed = λ κs a. tt; end = λ a. tt }

fed_last : (x : InHand) (ps : List (List ℕ)) (p : List ℕ) → fed_all x (ps ++ p ∷ []) ≡ fed (fed_all x ps) p
unfolding fed_all
fed_last x [] p = refl
fed_last x (q ∷ ps) p = fed_last (fed x q) ps p

pub fed_is : {name : List ℕ} {ps : List (List ℕ)} {b : FileReader} → Fed name ps b → in_hand b ≡ fed_all (begun name) ps
unfolding fed_all
fed_is (begins κs a b s e) = e (asks_nothing.begin κs a)
fed_is (feeds {name = name} {ps = ps} κs a b s f e) =
    let p = a.1.0.now in
    e (asks_nothing.feed κs a) ∙ ap (λ (x : InHand). fed x p) (fed_is f) ∙ sym (fed_last (begun name) ps p)

pub ends_is : {b : FileReader} {r : Result Notification Refusal} → Ends b r → r ≡ ended (in_hand b)
ends_is (ends a r s e) = e (asks_nothing.end a)

-- THE THEOREM: however many pieces a file reader was fed, its end gives what reading their join whole gives
pub read_in_pieces : {name : List ℕ} {ps : List (List ℕ)} {b : FileReader} {r : Result Notification Refusal} → Fed name ps b → Ends b r
    → r ≡ read_file name (joined_pieces ps)
read_in_pieces {name} {ps} f e = ends_is e ∙ ap ended (fed_is f) ∙ in_pieces name ps

-- so two readers of one file, cut in two ways, end alike
pub cut_anywhere_of_code : {name : List ℕ} {ps qs : List (List ℕ)} {b c : FileReader} {r t : Result Notification Refusal} → Fed name ps b → Ends b r
    → Fed name qs c → Ends c t → joined_pieces ps ≡ joined_pieces qs → r ≡ t
cut_anywhere_of_code {name} f e g h j = read_in_pieces f e ∙ ap (read_file name) j ∙ sym (read_in_pieces g h)
