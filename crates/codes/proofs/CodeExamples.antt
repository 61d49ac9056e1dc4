-- Codes held against their check characters by the definitions (document 02, K5).
use mathlib.Core.Path.{◌≡◌, refl}
use mathlib.Core.Bool.{true, false}
use mathlib.Core.List.{List, [], ◌∷◌, ◌++◌, map}
use Prim.Native.Nat.{ℕ}
use Prim.Native.Char.{code}
use Prim.Native.String.{String}
use Rattle.notification.specs.Forms.{is_code}
use Rattle.codes.specs.Codes.{value_of, weighed, check_value, has_check}

-- the bytes of a text
abbrev text : String → List ℕ
text Prim.Native.String.[] = []
text (Prim.Native.String.◌∷◌ c s) = code c ∷ text s

pub record Codes : Type 0 where
  -- "17X100A100R0000L passes, the guide's 17X100A100R00000 doesn't": 36 less 866 modulo 37 is 21, an L
  pub first : (weighed (text "17X100A100R0000L") ≡ 867) × (check_value 867 ≡ 21) × (has_check (text "17X100A100R0000L") ≡ true)
  pub second : has_check (text "17X100A100R0001J") ≡ true
  pub guides : has_check (text "17X100A100R00000") ≡ false
  -- two codes that the guide has elsewhere
  pub messages : (has_check (text "17X100A100R0416R") ≡ true) × (has_check (text "17X100A100R018RD") ≡ true)
  -- "give 0 to 9 their values, A to Z 10 to 35, hyphen 36"; "weigh the first fifteen characters 16 down to 2"
  pub values : map value_of (text "09AZ-") ≡ 0 ∷ 9 ∷ 10 ∷ 35 ∷ 36 ∷ []
  pub weights : (weighed (text "1000000000000000") ≡ 16) × (weighed (text "0000000000000010") ≡ 2) × (weighed (text "0000000000000001") ≡ 0)
  -- "where a sum of 0 gives the value 0", as a sum of 37 does
  pub no_sum : (weighed (text "0000000000000000") ≡ 0) × (map check_value (0 ∷ 1 ∷ 2 ∷ 37 ∷ 38 ∷ []) ≡ 0 ∷ 36 ∷ 35 ∷ 0 ∷ 36 ∷ [])
  pub zeros : (has_check (text "0000000000000000") ≡ true) × (has_check (text "000000000000000-") ≡ false)
  -- "and that value may not be 36": whatever the sixteenth is, a hyphen too, which may stand there by its form
  pub none : (check_value (weighed (text "17X100A100R000B-")) ≡ 36) × ((b : ℕ) → has_check (text "17X100A100R000B" ++ b ∷ []) ≡ false)
  pub by_form : is_code (text "17X100A100R000B-") ≡ true
  -- hyphens inside
  pub hyphens : (has_check (text "10XFR-RTE------Q") ≡ true) × (has_check (text "17X-ACTOR-A----8") ≡ true)
  -- two neighbours exchanged, a letter and a digit mistyped
  pub mistyped : (has_check (text "71X100A100R0000L") ≡ false) × (has_check (text "17X100B100R0000L") ≡ false) × (has_check (text "17X100A1O0R0000L") ≡ false)

pub codes : Codes
unfolding is_code weighed has_check
codes =
    record {
      first = (refl, refl, refl);
      second = refl;
      guides = refl;
      messages = (refl, refl);
      values = refl;
      weights = (refl, refl, refl);
      no_sum = (refl, refl);
      zeros = (refl, refl);
      none = (refl, λ b. refl);
      by_form = refl;
      hyphens = (refl, refl);
      mistyped = (refl, refl, refl);
    }
