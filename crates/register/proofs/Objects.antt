-- An object is read, and then its origin is compared with the submitter: what a filing's form comes to in each of the three cases.
use Rattle.std.specs.Prelude.{Result, Err, Ok, ⊤}
use mathlib.Core.Path.{◌≡◌, sym, ap, ◌∙◌}
use mathlib.Core.Bool.{Bool, cond, not}
use mathlib.Core.List.{List}
use Prim.Native.Nat.{ℕ}
use Rattle.lists.specs.Searches.{same}
use Rattle.refusals.specs.Tests.{input, pass, verdict}
use Rattle.refusals.specs.declared.InputRefusal.{InputRefusal}
use Rattle.refusals.specs.declared.InputRefusal.TheVariants.{Origin}
use Rattle.refusals.specs.declared.Refusal.{Refusal}
use Rattle.request.specs.Reading.{read_object, request_of}
use Rattle.request.specs.declared.Request.{Request}
use Rattle.request.proofs.Submitted.{from_refused, from_other, from_own}
use Rattle.register.proofs.Trying.{refused_by, passed_by}
use borrow.Author.Tests.{not-true, not-false}
use Rattle.ledger.specs.Call.{json, filed_in, read_form}

-- by what the object's reader gives
module _ (u body : List ℕ) where
  pub object_unread : (f : Refusal) → Err f ≡ read_object body → Err f ≡ read_form u (json body)
  unfolding read_form
  object_unread f g = ap filed_in (sym (from_refused u body f (ap verdict (sym g))))

  module _ (x : Request) (e : Ok x ≡ read_object body) where
    passed : verdict (read_object body) ≡ pass
    passed = ap verdict (sym e)

    module _ (same_origin : Bool) (es : same_origin ≡ same x.origin u) where
      pub object_origin : (g : InputRefusal) → ◌≡◌ {A = Result ⊤ InputRefusal} (Err g) (cond (not same_origin) (Err Origin) (Ok tt)) →
          Err (input g) ≡ read_form u (json body)
      unfolding read_form
      object_origin g k =
          let m = refused_by (not same_origin) Origin g k in
          rw m.1
          (ap filed_in (sym (from_other u body passed (ap (λ y. same (request_of y).origin u) (sym e) ∙ sym es ∙ not-true same_origin m.0))))

      pub object_own : (v : ⊤) → ◌≡◌ {A = Result ⊤ InputRefusal} (Ok v) (cond (not same_origin) (Err Origin) (Ok tt)) →
          Ok x.notification ≡ read_form u (json body)
      unfolding read_form
      object_own v k =
          ap (λ y. filed_in (Ok (request_of y))) e
          ∙ ap filed_in (sym (from_own u body passed (ap (λ y. same (request_of y).origin u) (sym e) ∙ sym es ∙ not-false same_origin (passed_by (not same_origin) Origin v k))))
