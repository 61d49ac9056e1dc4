-- The object, member by member (source document 003, section 5.3.1). Document 02, K3: "eight members in the table's order, with the names
-- of a step spelled as in its example".
use Rattle.std.specs.Prelude.{List, [], ◌∷◌, ◌++◌, map, ℕ}
use Rattle.request.specs.Tokens.{quoted}

-- THE NAMES

-- CodeEicActeurCedant
abbrev pub ceder_name : List ℕ
ceder_name = 67 ∷ 111 ∷ 100 ∷ 101 ∷ 69 ∷ 105 ∷ 99 ∷ 65 ∷ 99 ∷ 116 ∷ 101 ∷ 117 ∷ 114 ∷ 67 ∷ 101 ∷ 100 ∷ 97 ∷ 110 ∷ 116 ∷ []

-- CodeEicActeurAcquereur
abbrev pub acquirer_name : List ℕ
acquirer_name =
    67 ∷ 111 ∷ 100 ∷ 101 ∷ 69 ∷ 105 ∷ 99 ∷ 65 ∷ 99 ∷ 116 ∷ 101 ∷ 117 ∷ 114 ∷ 65 ∷ 99 ∷ 113 ∷ 117 ∷ 101 ∷ 114 ∷ 101 ∷ 117 ∷ 114 ∷ []

-- CodeEicActeurOrigine
abbrev pub origin_name : List ℕ
origin_name = 67 ∷ 111 ∷ 100 ∷ 101 ∷ 69 ∷ 105 ∷ 99 ∷ 65 ∷ 99 ∷ 116 ∷ 101 ∷ 117 ∷ 114 ∷ 79 ∷ 114 ∷ 105 ∷ 103 ∷ 105 ∷ 110 ∷ 101 ∷ []

-- NomCategorieEngagement
abbrev pub category_name : List ℕ
category_name =
    78 ∷ 111 ∷ 109 ∷ 67 ∷ 97 ∷ 116 ∷ 101 ∷ 103 ∷ 111 ∷ 114 ∷ 105 ∷ 101 ∷ 69 ∷ 110 ∷ 103 ∷ 97 ∷ 103 ∷ 101 ∷ 109 ∷ 101 ∷ 110 ∷ 116 ∷ []

-- DateExploitation
abbrev pub day_name : List ℕ
day_name = 68 ∷ 97 ∷ 116 ∷ 101 ∷ 69 ∷ 120 ∷ 112 ∷ 108 ∷ 111 ∷ 105 ∷ 116 ∷ 97 ∷ 116 ∷ 105 ∷ 111 ∷ 110 ∷ []

-- DateSoumission
abbrev pub submitted_name : List ℕ
submitted_name = 68 ∷ 97 ∷ 116 ∷ 101 ∷ 83 ∷ 111 ∷ 117 ∷ 109 ∷ 105 ∷ 115 ∷ 115 ∷ 105 ∷ 111 ∷ 110 ∷ []

-- Statut, and "Statut is "C""
abbrev pub status_name : List ℕ
status_name = 83 ∷ 116 ∷ 97 ∷ 116 ∷ 117 ∷ 116 ∷ []

abbrev pub created : List ℕ
created = 67 ∷ []

-- Chronique
abbrev pub series_name : List ℕ
series_name = 67 ∷ 104 ∷ 114 ∷ 111 ∷ 110 ∷ 105 ∷ 113 ∷ 117 ∷ 101 ∷ []

-- Debut, Fin, Puissance
abbrev pub from_name : List ℕ
from_name = 68 ∷ 101 ∷ 98 ∷ 117 ∷ 116 ∷ []

abbrev pub until_name : List ℕ
until_name = 70 ∷ 105 ∷ 110 ∷ []

abbrev pub power_name : List ℕ
power_name = 80 ∷ 117 ∷ 105 ∷ 115 ∷ 115 ∷ 97 ∷ 110 ∷ 99 ∷ 101 ∷ []

-- THE OBJECT, of which a thing stands in the place of each token: the token itself, or a test of it

-- of the members' values: ceder, acquirer, origin, category, DateExploitation, DateSoumission
pub record Values (A : Type 0) : Type 0 where
  pub ceder : A
  pub acquirer : A
  pub origin : A
  pub category : A
  pub day : A
  pub submitted : A

-- of a step's: Debut, Fin, Puissance
pub record Step (A : Type 0) : Type 0 where
  pub from : A
  pub until : A
  pub power : A

module _ {A : Type 0} (text : List ℕ → A) where
  -- `"name" : value`
  abbrev pub member : List ℕ → A → List A
  member name value = text (quoted name) ∷ text (58 ∷ []) ∷ value ∷ []

  -- each with a comma before it; one after another with a comma between each two
  unfoldable pub further : List (List A) → List A
  further [] = []
  further (x ∷ xs) = text (44 ∷ []) ∷ (x ++ further xs)

  unfoldable pub parted : List (List A) → List A
  parted [] = []
  parted (x ∷ xs) = x ++ further xs

  -- in `{` and `}`
  abbrev pub braced : List A → List A
  braced ts = text (123 ∷ []) ∷ (ts ++ text (125 ∷ []) ∷ [])

  unfoldable pub step_of : Step A → List A
  step_of s = braced (parted (member from_name s.from ∷ member until_name s.until ∷ member power_name s.power ∷ []))

  -- the steps in `[` and `]`
  unfoldable pub series_of : List (Step A) → List A
  series_of steps = text (91 ∷ []) ∷ (parted (map step_of steps) ++ text (93 ∷ []) ∷ [])

  unfoldable pub object_of : Values A → List (Step A) → List A
  object_of v steps =
      braced (parted (
      member ceder_name v.ceder
      ∷ member acquirer_name v.acquirer
      ∷ member origin_name v.origin
      ∷ member category_name v.category
      ∷ member day_name v.day
      ∷ member submitted_name v.submitted
      ∷ member status_name (text (quoted created))
      ∷ (text (quoted series_name) ∷ text (58 ∷ []) ∷ series_of steps)
      ∷ []))
