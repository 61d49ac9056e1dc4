-- WHAT IS WRITTEN INTO A TABLE of document 01's "8 actors, 4 categories, 64 loads, 256 records". One entry more stands at the first free
-- place, and every other place holds what it held.
use Rattle.std.specs.Prelude.{List, ℕ, zero, suc, ◌+◌, set}
use Rattle.ledger.specs.declared.Actor.{Actor}
use Rattle.tables.specs.declared.actors.Actors.{Actors}
use Rattle.tables.specs.declared.categories.Category.{Category}
use Rattle.tables.specs.declared.categories.Categories.{Categories}
use Rattle.tables.specs.Tables.{LoadColumns, load_columns}

abbrev pub more_actors : Actors → Actor → Actors
more_actors x a = record { count = x.count + 1; entries = set x.entries x.count a }

abbrev pub more_categories : Categories → Category → Categories
more_categories x z = record { count = x.count + 1; entries = set x.entries x.count z }

-- one load more at place n
abbrev pub load_put : LoadColumns → ℕ → (number most : ℕ) → List ℕ → LoadColumns
load_put cols n number most row =
    load_columns (set cols.keys n number) (set cols.approved n most) (set cols.rows n row)

-- the first n places of a list, each with what is given for it; every other place holds what it held
unfoldable pub put_to : {A : Type 0} → (ℕ → A) → ℕ → List A → List A
put_to f zero xs = xs
put_to f (suc n) xs = set (put_to f n xs) n (f n)

-- a record's mark with another until-step
abbrev pub with_until : List ℕ → ℕ → List ℕ
with_until mark until = set mark 2 until
