-- A REFUSED CALL LEAVES THE REGISTER AS IT CAME IN, every byte of its head and of its lent columns, reached or not: read off what the called
-- function ensures.
use Rattle.std.specs.Prelude.{Err, Ok}
use mathlib.Core.Path.{◌≡◌, refl, ◌∙◌, ap}
use native.Mathlib.Omega.{arith}
use Prim.Native.Nat.{ℕ}
use Rattle.refusals.specs.Tests.{decide, Verdict}
use Rattle.refusals.specs.declared.Refusal.{Refusal}
use Rattle.ledger.specs.Call.{Call, enrol_actor, enrol_category, load, file, advance}
use Rattle.ledger.specs.Ledger.{Ledger}
use Rattle.ledger.specs.Calls.{verdict_of, file_at, effect, refused_by, step}
use Rattle.register.specs.View.{Register, held}
use Rattle.register.specs.Written.{Done, writes, leaves}
use Rattle.register.proofs.Runs.{Did, did_all}

-- what an accepted call answers is no refusal
no_refusal : {P : Type 0} (l : Ledger) (c : Call) (f : Refusal) → Err f ≡ (effect l c).answer → P
unfolding effect file_at
no_refusal l (enrol_actor code first last) f e = let z : ◌≡◌ {A = ℕ} 0 1 = cc in absurd (omega arith)
no_refusal l (enrol_category text) f e = let z : ◌≡◌ {A = ℕ} 0 1 = cc in absurd (omega arith)
no_refusal l (load actor category day most ps) f e = let z : ◌≡◌ {A = ℕ} 0 1 = cc in absurd (omega arith)
no_refusal l (file entry submitter form) f e = let z : ◌≡◌ {A = ℕ} 0 1 = cc in absurd (omega arith)
no_refusal l (advance day minute) f e = let z : ◌≡◌ {A = ℕ} 0 1 = cc in absurd (omega arith)

by_verdict : (r : Register) (c : Call) (f : Refusal) (v : Verdict) → Err f ≡ (decide v (effect (held r) c) (refused_by (held r))).answer →
    decide v (writes r c) (λ g. r) ≡ r
by_verdict r c f (Ok u) e = no_refusal (held r) c f e
by_verdict r c f (Err g) e = refl

pub refused_kept : {r s : Register} {c : Call} (f : Refusal) → Did r c (Err f) s → s ≡ r
unfolding leaves step
refused_kept {r = r} {c = c} f d =
    ap (λ (x : Done). x.register) (did_all d)
    ∙ by_verdict r c f (verdict_of (held r) c) (ap (λ (x : Done). x.outcome.answer) (did_all d))
