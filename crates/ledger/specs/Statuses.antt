-- The statuses of a record (document 01, "The ledger", "The statuses").
use Rattle.std.specs.Prelude.{ℕ}

-- the statuses, by their letters: C created, A answered, S deleted, V validated, P validated, updated, O obsolete
abbrev pub created : ℕ
created = 67

abbrev pub answered : ℕ
answered = 65

abbrev pub deleted : ℕ
deleted = 83

abbrev pub validated : ℕ
validated = 86

abbrev pub updated : ℕ
updated = 80

abbrev pub obsolete : ℕ
obsolete = 79
