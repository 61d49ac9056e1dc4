-- Where the writer answers two lengths, the reader reads these first bytes of the two buffers as the notification that was
-- written. Where the reader accepts a file, the writer puts that notification as the same file, byte for byte.
use borrow.Fn.Kinds
use borrow.Fn.World
use contract.Lifetimes
use denote.Triple.Clauses
use mathlib.Core.Path.{◌≡◌, sym, ◌∙◌}
use mathlib.Core.List.{List, ◌++◌}
use Prim.Native.Nat.{ℕ, ◌≤◌}
use native.Mathlib.Omega.{arith}
use lib.ListN.{length, take, drop}
use Rattle.refusals.specs.declared.Refusal.{Refusal}
use Rattle.std.specs.Prelude.{Result, Ok, Err}
use Rattle.refusals.specs.Tests.{Verdict, pass}
use Rattle.notification.specs.Forms.{places}
use Rattle.notification.specs.Writing.{name_of, body_of, lengths, written, Writes}
use Rattle.notification.specs.Reading.{read_file}
use Rattle.notification.specs.declared.Notification.{Notification}
use Rattle.notification.specs.declared.FileLengths.{FileLengths}
use Rattle.notification.proofs.TwoWays.{two_ways}
use Rattle.notification.proofs.Buffers.{begins_with, rest_kept as rest-as-before, as_long, passes_fit, answers_fit, Answered, answered, untouched}
use Rattle.writer.specs.Placing.{FileWritten}
use Rattle.reader.specs.contracts.reading.read_file as read-fn
use Rattle.reader.proofs.reading.read_file.Kinds as read-kinds
use Rattle.reader.proofs.reading.read_file.Reads as read-reads
use Rattle.writer.specs.contracts.writing.write_file as write-fn
use Rattle.writer.proofs.writing.write_file.Kinds as write-kinds
use Rattle.writer.proofs.writing.write_file.Reads as write-reads

-- ---- the two calls, as Rattle reads them off the source

-- A NAME AND A BODY, READ, AND THE ANSWER: of it nothing is known but what `read_file` ensures where what it asks holds
pub data Read : List ℕ → List ℕ → Result Notification Refusal → Type 1 where
  read : (κs : Lifetimes.Lfts 2) (x : World.ArgsD read-fn.signature κs) (y : Result Notification Refusal)
      (s : Clauses.AtExit (Kinds.ended_of 2 read-kinds.ps read-kinds.r) κs) →
      (read-reads.Asked κs x → read-reads.Post κs x y s) → Read x.0.now x.1.0.now y

-- A NOTIFICATION, WRITTEN INTO TWO BUFFERS, THE ANSWER, AND THE BUFFERS AFTERWARDS: nothing is known but what `write_file`
-- ensures where what it asks holds, and what the types of its arguments say, as that an array has so many places
pub data Wrote : Notification → List ℕ → List ℕ → Result FileLengths Refusal → List ℕ → List ℕ → Type 1 where
  wrote : (κs : Lifetimes.Lfts 2) (x : World.ArgsD write-fn.signature κs) (w : Result FileLengths Refusal)
      (s : Clauses.AtExit (Kinds.ended_of 2 write-kinds.ps write-kinds.r) κs) → Kinds.GoodsP κs write-kinds.ps x →
      (write-reads.Asked κs x → write-reads.Post κs x w s) →
      Wrote x.0 x.1.0.now x.1.1.0.now w s.1.0.now s.1.1.0.now

-- a buffer whose first p bytes were written, and nothing else
pub record Put (p : ℕ) (before after : List ℕ) : Type 0 where
  pub within : p ≤ length after
  pub as_before : length after ≡ length before
  pub rest : drop p after ≡ drop p before

-- WHAT THE TWO CALLS COME TO TOGETHER: a and b are two lent buffers, a' and b' what they hold afterwards
pub record RoundTrip : Type 1 where
  -- written, then read: as many first bytes of the buffers as the writer answers are read as the notification, and nothing
  -- else of the buffers was touched
  pub written_read : {n : Notification} {a b a' b' : List ℕ} {p q : ℕ} {y : Result Notification Refusal} → Wrote n a b (Ok (lengths p q)) a' b' →
      Read (take p a') (take q b') y → y ≡ Ok n
  pub rest_kept : {n : Notification} {a b a' b' : List ℕ} {p q : ℕ} → Wrote n a b (Ok (lengths p q)) a' b' → Put p a a' × Put q b b'
  -- read, then written: a notification that was read from a file is written as that file, where the buffers are long enough
  pub read_written : {n : Notification} {name body a b a' b' : List ℕ} {w : Result FileLengths Refusal} → Read name body (Ok n) →
      Wrote n a b w a' b' → length name ≤ length a → length body ≤ length b →
      (w ≡ Ok (lengths (length name) (length body))) × (a' ≡ name ++ drop (length name) a) × (b' ≡ body ++ drop (length body) b)
  -- a refusal leaves both buffers as they were
  pub refused_kept : {n : Notification} {a b a' b' : List ℕ} {r : Refusal} → Wrote n a b (Err r) a' b' → (a' ≡ a) × (b' ≡ b)

-- ---- what the contracts give: nothing is asked, so what is ensured holds

read_is : {name body : List ℕ} {y : Result Notification Refusal} → Read name body y → y ≡ read_file name body
read_is (read κs x y s e) = e tt

wrote_is : {n : Notification} {a b a' b' : List ℕ} {w : Result FileLengths Refusal} → Wrote n a b w a' b' → FileWritten n a b w a' b'
wrote_is (wrote κs x w s g e) = e tt

-- an array's type says how many places it has
six_and_fifty : {n : Notification} {a b a' b' : List ℕ} {w : Result FileLengths Refusal} → Wrote n a b w a' b' →
    (length n.key.category ≡ 6) × (length n.powers ≡ places)
six_and_fifty (wrote κs x w s g e) =
    let types = g.0.1.1 in
    (types.0.1.1.1.1.0.1.0.1, types.1.1.0.1.0.1)

-- ---- one buffer after a pass

module _ (v : Verdict) (passed : v ≡ pass) (text before after : List ℕ) (left : after ≡ written v text before) where
  taken : (p : ℕ) → p ≡ length text → take p after ≡ text
  taken p e = rw (e, left, passed) (begins_with text before)

  put : (p : ℕ) → p ≡ length text → p ≤ length before → Put p before after
  put p e h =
      let l : length after ≡ length before = rw (left, passed) (as_long text before (omega arith)) in
      record {
        within = omega arith;
        as_before = l;
        rest = rw (e, left, passed) (rest-as-before text before);
      }

  put_whole : (t : List ℕ) → t ≡ text → after ≡ t ++ drop (length t) before
  unfolding written
  put_whole t e = left ∙ rw (passed, e)

-- ---- two lengths were answered

module _ {n : Notification} {a b a' b' : List ℕ} {p q : ℕ} (d : Wrote n a b (Ok (lengths p q)) a' b') where
  abbrev left : FileWritten n a b (Ok (lengths p q)) a' b'
  left = wrote_is d

  abbrev says : Answered n (length a) (length b) p q
  says = answered n (length a) (length b) p q (sym left.answers)

  file_there : Writes n (take p a') (take q b')
  file_there =
      record {
        six = (six_and_fifty d).0;
        fifty = (six_and_fifty d).1;
        passes = says.unrefused;
        its_name = taken _ says.a_pass _ a a' left.its_name p says.of_name;
        its_body = taken _ says.a_pass _ b b' left.its_body q says.of_body;
      }

  both_put : Put p a a' × Put q b b'
  both_put =
      let name = put _ says.a_pass _ a a' left.its_name p says.of_name says.name_room_lem in
      let body = put _ says.a_pass _ b b' left.its_body q says.of_body says.body_room_lem in
      (name, body)

-- ---- a file was accepted

accepted_file : {n : Notification} {name body : List ℕ} → Read name body (Ok n) → Writes n name body
accepted_file {n} {name} {body} r = (two_ways name body n).0 (sym (read_is r))

module _ {n : Notification} {name body a b a' b' : List ℕ} {w : Result FileLengths Refusal} (f : Writes n name body) (d : Wrote n a b w a' b')
    (name_fits : length name ≤ length a) (body_fits : length body ≤ length b) where
  file_again : (w ≡ Ok (lengths (length name) (length body))) × (a' ≡ name ++ drop (length name) a) × (b' ≡ body ++ drop (length body) b)
  file_again =
      let left = wrote_is d in
      let passed = passes_fit n name body f (length a) (length b) name_fits body_fits in
      let answer = left.answers ∙ answers_fit n name body f (length a) (length b) name_fits body_fits in
      (answer, put_whole _ passed _ a a' left.its_name name f.its_name, put_whole _ passed _ b b' left.its_body body f.its_body)

-- ---- it was refused

both_kept : {n : Notification} {a b a' b' : List ℕ} {r : Refusal} → Wrote n a b (Err r) a' b' → (a' ≡ a) × (b' ≡ b)
both_kept {n} {a} {b} {a'} {b'} {r} d =
    let left = wrote_is d in
    let kept = untouched n (length a) (length b) r (sym left.answers) in
    (left.its_name ∙ kept (name_of n.key) a, left.its_body ∙ kept (body_of n) b)

-- THE THEOREM OF THE FILE, of every call of `write_file` and of `read_file`
pub round_trip : RoundTrip
round_trip =
    record {
      written_read = λ d r. read_is r ∙ (two_ways _ _ _).1 (file_there d);
      rest_kept = both_put;
      read_written = λ r d h k. file_again (accepted_file r) d h k;
      refused_kept = both_kept;
    }
