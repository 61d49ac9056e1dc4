-- What an actor files is read as the object is, and 43 comes last: it is accepted where the object is and the actor is its origin, and
-- any refusal of the object stays.
use Rattle.std.specs.Prelude.{Err, Ok, Result}
use mathlib.Core.Path.{◌≡◌, refl, sym, ap, ◌∙◌}
use mathlib.Core.Logic.{◌↔◌}
use mathlib.Core.Bool.{not}
use mathlib.Core.List.{List, [], ◌∷◌, ◌++◌}
use Prim.Native.Nat.{ℕ}
use borrow.Author.Tests.{not-false}
use Rattle.lists.specs.Searches.{same}
use Rattle.lists.proofs.Searches.{same_refl, same_true}
use Rattle.refusals.specs.Tests.{Test, input, first_met, verdict}
use Rattle.refusals.specs.declared.InputRefusal.TheVariants.{Origin}
use Rattle.refusals.specs.declared.Refusal.{Refusal}
use Rattle.refusals.proofs.Tests.{decide_pass, pass_first, pass_append, refuse_append, tried_append, tried_passed}
use Rattle.request.specs.Tokens.{tokens}
use Rattle.request.specs.Reading.{text_at, object_tests, request_in, read_object, read_from, request_of}
use Rattle.request.specs.declared.Request.{Request}

module _ (submitter s : List ℕ) where
  abbrev origin : List ℕ
  origin = text_at 11 (tokens s)

  abbrev test : Test
  test = (not (same origin submitter), input Origin)

  its_origin : (request_in (tokens s)).origin ≡ origin
  unfolding request_in
  its_origin = refl

  accepted_from : (r : Request) → read_from submitter s ≡ Ok r → (read_object s ≡ Ok r) × (r.origin ≡ submitter)
  unfolding read_from read_object
  accepted_from r e =
      let d = decide_pass verdict (first_met (object_tests s ++ test ∷ [])) (Ok (request_in (tokens s)))
      Err (Ok r) (λ x. refl) refl e in
      let p = tried_passed (first_met (object_tests s)) test (sym (tried_append (object_tests s) test) ∙ d.0) in
      let f = pass_first (not (same origin submitter)) (input Origin) [] (sym (pass_append (object_tests s) (test ∷ []) p) ∙ d.0) in
      let o = same_true origin submitter (not-false (same origin submitter) f) in
      (rw p d.1, ap (λ (x : Result Request Refusal). (request_of x).origin) (sym d.1) ∙ (its_origin ∙ o))

  from_accepted : (r : Request) → read_object s ≡ Ok r → r.origin ≡ submitter → read_from submitter s ≡ Ok r
  unfolding read_from read_object
  from_accepted r e o =
      let d = decide_pass verdict (first_met (object_tests s)) (Ok (request_in (tokens s)))
      Err (Ok r) (λ x. refl) refl e in
      let q : origin ≡ submitter = sym its_origin ∙ (ap (λ (x : Result Request Refusal). (request_of x).origin) d.1 ∙ o) in
      rw (pass_append (object_tests s) (test ∷ []) d.0, q, same_refl submitter) d.1

  -- an actor's object is accepted where it is and the actor is its origin
  pub from_submitter : (r : Request) → (read_from submitter s ≡ Ok r) ↔ ((read_object s ≡ Ok r) × (r.origin ≡ submitter))
  from_submitter r = (accepted_from r, λ p. from_accepted r p.0 p.1)

  -- a refusal of the object comes before 43
  pub refused_from : (q : Refusal) → first_met (object_tests s) ≡ Err q → read_from submitter s ≡ Err q
  unfolding read_from
  refused_from q e = rw (refuse_append q (object_tests s) (test ∷ []) e)
