-- Reading accepts exactly the objects that writing gives, blanks between their tokens apart, each as the request it was written from.
use Rattle.std.specs.Prelude.{Ok, Err}
use mathlib.Core.Path.{◌≡◌, refl, sym, ap, ◌∙◌, subst}
use mathlib.Core.Logic.{◌↔◌}
use mathlib.Core.List.{List}
use Prim.Native.Nat.{ℕ, ◌≤◌}
use native.Mathlib.Omega.{arith}
use lib.ListN.{length}
use Rattle.refusals.specs.Tests.{first_met, pass, verdict}
use Rattle.refusals.proofs.Tests.{decide_pass}
use Rattle.notification.specs.Forms.{places}
use Rattle.request.specs.Tokens.{tokens, joined}
use Rattle.request.specs.Writing.{request_tests, object_tokens, object_text, object_most, WritesObject}
use Rattle.request.specs.Reading.{object_tests, request_in, read_object, request_of}
use Rattle.request.specs.declared.Request.{Request}
use Rattle.request.proofs.Laid.{Laid, tokens_laid, joined_laid}
use Rattle.request.proofs.Tables.{Faultless, object_passes, passes_object, request_passes, passes_request}
use Rattle.request.proofs.Accepted.{faultless_filed}
use Rattle.request.proofs.Written.{layout_tokens, tokens_faultless, tokens_request}
use Rattle.request.proofs.Lengths.{text_length}

-- ---- a text has the tokens of a request exactly where it is these tokens, with blanks before, between and after them

pub layouts : (s : List ℕ) (r : Request) → first_met (request_tests r) ≡ pass → (tokens s ≡ object_tokens r) ↔ Laid (object_tokens r) s
layouts s r e = (λ t. subst (λ (ts : List (List ℕ)). Laid ts s) t (tokens_laid s), layout_tokens r (request_passes r e) s)

-- ---- what the writer writes is one of these texts: no blanks, and short enough

pub written_tokens : (r : Request) → first_met (request_tests r) ≡ pass → tokens (object_text r) ≡ object_tokens r
written_tokens r e = layout_tokens r (request_passes r e) (object_text r) (joined_laid (object_tokens r))

pub written_short : (r : Request) → first_met (request_tests r) ≡ pass → length (object_text r) ≤ object_most
written_short r e = omega (arith, text_length r (request_passes r e))

-- ---- from an object that is read to its request

read_back : (s : List ℕ) (r : Request) → read_object s ≡ Ok r → WritesObject r s
unfolding read_object
read_back s r e =
    let passed = first_met (object_tests s) in
    let d = decide_pass verdict passed (Ok (request_in (tokens s))) Err (Ok r) (λ x. refl) refl e in
    let o = object_passes s d.0 in
    let f = faultless_filed (tokens s) o.1 in
    subst (λ (x : Request). WritesObject x s) (ap request_of d.1)
    (record {
      six = f.its_six;
      fifty = f.its_fifty;
      passes = passes_request (request_in (tokens s)) f.fileable;
      its_tokens = f.all;
      short = o.0;
    })

-- ---- from a request that can be written to what is read

read_written : (s : List ℕ) (r : Request) → WritesObject r s → read_object s ≡ Ok r
unfolding read_object
read_written s r w =
    let f = request_passes r w.passes in
    let a = subst Faultless (sym w.its_tokens) (tokens_faultless r f w.six w.fifty) in
    let q = ap request_in w.its_tokens ∙ tokens_request r f w.six w.fifty in
    rw (passes_object s w.short a, q)

-- what the writer gives is read as the request that it was given
pub written_read : (r : Request) → length r.notification.key.category ≡ 6 → length r.notification.powers ≡ places
    → first_met (request_tests r) ≡ pass → read_object (object_text r) ≡ Ok r
written_read r six fifty e =
    read_written (object_text r) r
    (record { six = six; fifty = fifty; passes = e; its_tokens = written_tokens r e; short = written_short r e })

-- with the blanks between its tokens taken away, an accepted text is the text that the writer gives
pub read_text : (s : List ℕ) (r : Request) → read_object s ≡ Ok r → joined (tokens s) ≡ object_text r
read_text s r e = ap joined (read_back s r e).its_tokens

-- THE THEOREM: an object is read as a request exactly where writing that request gives it, apart from blanks between its tokens
pub two_ways : (s : List ℕ) (r : Request) → (read_object s ≡ Ok r) ↔ WritesObject r s
two_ways s r = (read_back s r, read_written s r)
