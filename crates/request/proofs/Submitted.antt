-- An object that a submitter files is read, and then its origin is compared with the submitter ("43 .. next after 8").
use Rattle.std.specs.Prelude.{Err, Ok}
use mathlib.Core.Path.{◌≡◌, refl, sym, ap, ◌∙◌}
use mathlib.Core.Bool.{true, false, not}
use mathlib.Core.List.{List, [], ◌∷◌}
use Prim.Native.Nat.{ℕ}
use Rattle.lists.specs.Searches.{same}
use Rattle.refusals.specs.Tests.{Test, input, first_met, decide, Verdict, pass, verdict}
use Rattle.refusals.specs.declared.InputRefusal.TheVariants.{Origin}
use Rattle.refusals.specs.declared.Refusal.{Refusal}
use Rattle.refusals.proofs.Tests.{pass_append, refuse_append}
use Rattle.request.specs.Tokens.{tokens}
use Rattle.request.specs.Reading.{text_at, object_tests, request_in, read_object, read_from, request_of}
use Rattle.request.specs.declared.Request.{Request}

module _ (submitter s : List ℕ) where
  abbrev read : Request
  read = request_in (tokens s)

  -- the test of 43
  abbrev other : List Test
  other = (not (same (text_at 11 (tokens s)) submitter), input Origin) ∷ []

  its_verdict : (v : Verdict) → verdict (decide v (Ok read) Err) ≡ v
  its_verdict (Ok u) = refl
  its_verdict (Err r) = refl

  tested : (v : Verdict) → verdict (read_object s) ≡ v → first_met (object_tests s) ≡ v
  unfolding read_object
  tested v e = sym (its_verdict (first_met (object_tests s))) ∙ e

  -- an object that isn't read is refused as it is
  pub from_refused : (f : Refusal) → verdict (read_object s) ≡ Err f → read_from submitter s ≡ Err f
  unfolding read_from
  from_refused f e = ap (λ v. decide v (Ok read) Err) (refuse_append f (object_tests s) _ (tested (Err f) e))

  module _ (e : verdict (read_object s) ≡ pass) where
    its_request : (request_of (read_object s)) ≡ read
    unfolding read_object
    its_request = rw (tested pass e)

    its_origin : same (text_at 11 (tokens s)) submitter ≡ same (request_of (read_object s)).origin submitter
    unfolding request_in
    its_origin = ap (λ (r : Request). same r.origin submitter) (sym its_request)

    -- one that is read, with another origin
    pub from_other : same (request_of (read_object s)).origin submitter ≡ false → read_from submitter s ≡ Err (input Origin)
    unfolding read_from
    from_other d = rw (pass_append (object_tests s) other (tested pass e), its_origin, d)

    -- and with the submitter's own
    pub from_own : same (request_of (read_object s)).origin submitter ≡ true → read_from submitter s ≡ Ok (request_of (read_object s))
    unfolding read_from
    from_own d = rw (pass_append (object_tests s) other (tested pass e), its_origin, d, its_request)
