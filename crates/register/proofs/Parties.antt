-- Who files, for whom, in which category: how many are enrolled, and the tests 20 to 25 by these numbers.
use mathlib.Core.Path.{◌≡◌, refl, ◌∙◌}
use mathlib.Core.Bool.{Bool, ◌&&◌}
use mathlib.Core.List.{List, [], ◌∷◌}
use Prim.Native.Nat.{ℕ, zero, suc, ◌<◌, min}
use native.Mathlib.Omega.{arith}
use lib.Dec.{leb}
use lib.ListN.{length, get_or, take, length-map}
use lib.Seq.{length-take-le, get_or-take}
use mir.Val.{Val}
use denote.Laws.{Is}
use Rattle.notification.specs.Forms.{category_text}
use Rattle.notification.specs.declared.Notification.{Notification}
use Rattle.notification.specs.contracts.Notification as notification
use Rattle.ledger.specs.Ledger.{actor_at, category_at}
use Rattle.ledger.specs.Filing.{key_of, in_contract, nobody}
use Rattle.ledger.specs.declared.Actor.{Actor}
use Rattle.tables.specs.Tables.{Columns, LoadColumns, actors_in, categories_in}
use Rattle.tables.specs.declared.actors.Actors.{Actors}
use Rattle.tables.specs.declared.categories.Categories.{Categories}
use Rattle.tables.proofs.Entries.{actors_length, categories_length}
use Rattle.register.specs.declared.Head.{Head}
use Rattle.register.specs.View.{view}
use Rattle.register.specs.Judging.{Placed}
use Rattle.register.specs.contracts.Head as head

-- ---- how many are enrolled

pub actors_many : (x : Actors) → length x.entries ≡ 8 → length (actors_in x) ≡ min x.count 8
unfolding actors_in
actors_many x e = length-take-le (min x.count 8) x.entries (omega arith)

pub categories_many : (x : Categories) → length x.entries ≡ 4 → length (categories_in x) ≡ min x.count 4
unfolding categories_in
categories_many x e = length-map (take (min x.count 4) x.entries) _ ∙ length-take-le (min x.count 4) x.entries (omega arith)

module _ (h : Head) (vs : List Val) (p : Is head.the_row h vs) where
  pub head_entries : length h.actors.entries ≡ 8
  head_entries = actors_length h.actors _ p.1.1.1.0

  pub head_actors : length (actors_in h.actors) ≡ min h.actors.count 8
  head_actors = actors_many h.actors head_entries

  pub head_categories : length (categories_in h.categories) ≡ min h.categories.count 4
  head_categories = categories_many h.categories (categories_length h.categories _ p.1.1.1.1.0)

-- the actor at a place is the entry there
pub actor_entry : (x : Actors) (i : ℕ) (d : Actor) → i < length (actors_in x) → length x.entries ≡ 8 → get_or (actors_in x) i d ≡ get_or x.entries i d
unfolding actors_in
actor_entry x i d h e =
    let k : i < min x.count 8 = omega (arith, length-take-le (min x.count 8) x.entries (omega arith)) in
    get_or-take (min x.count 8) x.entries i d k

pub default_any : {A : Type 0} (xs : List A) (i : ℕ) (d e : A) → i < length xs → get_or xs i d ≡ get_or xs i e
default_any [] i d e h = absurd (omega arith)
default_any (x ∷ xs) zero d e h = refl
default_any (x ∷ xs) (suc i) d e h = default_any xs i d e (omega arith)

abbrev pub blank : Actor
blank = record { code = []; first = 0; last = 0 }

-- the contract of the actor at a place is that of the entry there
pub contract_is : (h : Head) (cols : Columns) (loads : LoadColumns) (i d : ℕ) → i < length (actors_in h.actors) → length h.actors.entries ≡ 8 →
    (r : Bool) → r ≡ (leb (get_or h.actors.entries i blank).first d && leb d (get_or h.actors.entries i blank).last) →
    r ≡ in_contract (view h cols loads) i d
unfolding view
contract_is h cols loads i d k e r er =
    let m = actors_many h.actors e in
    let f : get_or (actors_in h.actors) i nobody ≡ get_or h.actors.entries i blank =
    actor_entry h.actors i nobody k e ∙ default_any h.actors.entries i nobody blank (omega arith) in
    rw f er

-- ---- the places

pub acquirer_length : (n : Notification) (vs : List Val) → Is notification.the_row n vs → length n.key.acquirer ≡ 16
acquirer_length n vs p = p.1.1.0.1.1.1.0.1.0.1

pub placed : (h : Head) (cols : Columns) (loads : LoadColumns) (submitter : List ℕ) (n : Notification) (c a by z : ℕ) →
    c ≡ actor_at (actors_in h.actors) n.key.ceder → a ≡ actor_at (actors_in h.actors) n.key.acquirer →
    by ≡ actor_at (actors_in h.actors) submitter → z ≡ category_at (categories_in h.categories) (category_text n.key.category) →
    Placed (view h cols loads) submitter n (record { ceder = c; acquirer = a; submitter = by; category = z; day = n.key.day })
unfolding view key_of
placed h cols loads submitter n c a by z ec ea eb ez = record { key = cc; by = eb }
