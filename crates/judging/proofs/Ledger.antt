-- The nets are the ledger's: what ceder and acquirer have without the key's own power, and the checks 32 to 35 by it.
use Rattle.std.proofs.Common.{◌≡◌, ℕ, ◌+◌, ◌-◌, ◌/◌, ◌%◌, ◌<◌, ◌≤◌, Bool, true, cond, ◌&&◌, ◌||◌, eqb, ltb, leb, List, [], get_or, sym, ap, ◌∙◌, arith, eq-eqb, eqb-true}
use Rattle.lists.specs.Searches.{first_from}
use Rattle.lists.specs.Sums.{sum_to}
use Rattle.lists.proofs.Sums.{sum_ext, sum_add, sum_zero}
use Rattle.lists.proofs.Searches.{first_agree}
use Rattle.refusals.specs.Tests.{first_met}
use Rattle.ledger.specs.Statuses.{validated, updated}
use Rattle.ledger.specs.Ledger.{Key, Rec, Ledger, moved_by, moved, under_key, cedes, acquires, power, ceded, acquired, loaded, approved, gained}
use Rattle.ledger.specs.Filing.{ceder_below, acquirer_above, ceder_above, acquirer_below, checks}
use Rattle.tables.specs.Tables.{Columns, down_from, key_from, record_in}
use Rattle.judging.specs.Nets.{base, part, Netted}
use Rattle.judging.specs.Steps.{net_tests}
use Rattle.judging.specs.declared.nets.Nets.{Nets}
use Rattle.tables.proofs.Down.{down_sum}
use Rattle.tables.proofs.Keys.{key_same}
use Rattle.judging.proofs.Keys.{same_order, same_day, any_1, any_2, any_3, any_4, kind_packed, own_is, own_is_not, term_split}

-- one of the parties of a key is one of another's
abbrev party : ℕ → ℕ → Bool
party own m =
    eqb (m / 8 % 8) (own / 8 % 8) || eqb (m / 8 % 8) (own % 8) || (eqb (m % 8) (own / 8 % 8) || eqb (m % 8) (own % 8))

module _ (own m : ℕ) where
  ceder_ceder : eqb (m / 8 % 8) (own / 8 % 8) ≡ true → party own m ≡ true
  ceder_ceder = any_1 (eqb (m / 8 % 8) (own / 8 % 8)) (eqb (m / 8 % 8) (own % 8)) (eqb (m % 8) (own / 8 % 8)) (eqb (m % 8) (own % 8))

  ceder_acquirer : eqb (m / 8 % 8) (own % 8) ≡ true → party own m ≡ true
  ceder_acquirer = any_2 (eqb (m / 8 % 8) (own / 8 % 8)) (eqb (m / 8 % 8) (own % 8)) (eqb (m % 8) (own / 8 % 8)) (eqb (m % 8) (own % 8))

  acquirer_ceder : eqb (m % 8) (own / 8 % 8) ≡ true → party own m ≡ true
  acquirer_ceder = any_3 (eqb (m / 8 % 8) (own / 8 % 8)) (eqb (m / 8 % 8) (own % 8)) (eqb (m % 8) (own / 8 % 8)) (eqb (m % 8) (own % 8))

  acquirer_acquirer : eqb (m % 8) (own % 8) ≡ true → party own m ≡ true
  acquirer_acquirer = any_4 (eqb (m / 8 % 8) (own / 8 % 8)) (eqb (m / 8 % 8) (own % 8)) (eqb (m % 8) (own / 8 % 8)) (eqb (m % 8) (own % 8))

-- the records of the tables, the newest first
abbrev pub held : Columns → ℕ → List Rec
held cols n = down_from (record_in cols) n

-- ---- what the records move, for the ceder and the acquirer of a key

module _ (cols : Columns) (n own s : ℕ) where
  abbrev key : ℕ → ℕ
  key i = get_or cols.keys i 0

  abbrev others : (ℕ → Bool) → ℕ
  others kind = sum_to n (part cols own kind s)

  -- what record i moves under the key itself, where it is of a kind
  abbrev mine : (ℕ → Bool) → ℕ → ℕ
  mine is i = cond (eqb (key i) own && (same_day (key i) own && is (key i))) (moved_by s (record_in cols i)) 0

  -- what the records of a kind move is what those of other keys move, and those of the key itself
  moved_split : (kind : Rec → Bool) (is : ℕ → Bool) →
      ((i : ℕ) → kind (record_in cols i) ≡ (same_day (key i) own && is (key i))) →
      ((m : ℕ) → is m ≡ true → party own m ≡ true) →
      moved kind (held cols n) s
      ≡ others is + sum_to n (mine is)
  unfolding moved
  moved_split kind is h p =
      down_sum (record_in cols) n (λ r. cond (kind r) (moved_by s r) 0)
      ∙ sum_ext n (λ i. cond (kind (record_in cols i)) (moved_by s (record_in cols i)) 0)
      (λ i. part cols own is s i + mine is i)
      (λ i. rw (h i)
      (term_split (same_day (key i) own) (is (key i)) (eqb (key i) own)
      (eqb (get_or cols.statuses i 0) validated || eqb (get_or cols.statuses i 0) updated)
      (party own (key i))
      (leb (get_or (get_or cols.marks i []) 1 0) s && ltb s (get_or (get_or cols.marks i []) 2 0))
      (get_or (get_or cols.rows i []) s 0)
      (p (key i))))
      ∙ sum_add n (part cols own is s)
      (mine is)

  -- what those of the key itself move is the key's power, or nothing
  own_power : (is : ℕ → Bool) → ((m : ℕ) → m ≡ own → is m ≡ true) →
      sum_to n (mine is) ≡ power (held cols n) (key_from own) s
  unfolding power moved
  own_power is f =
      sum_ext n _ (λ i. cond (under_key (key_from own) (record_in cols i)) (moved_by s (record_in cols i)) 0)
      (λ i. ap (λ b. cond b (moved_by s (record_in cols i)) 0) (own_is (key i) own (is (key i)) (f (key i)) ∙ sym (key_same (key i) own)))
      ∙ sym (down_sum (record_in cols) n (λ r. cond (under_key (key_from own) r) (moved_by s r) 0))

  own_nothing : (is : ℕ → Bool) → ((m : ℕ) → m ≡ own → is m ≡ true → ⊥) →
      sum_to n (mine is) ≡ 0
  own_nothing is f =
      sum_zero n _ (λ i h. ap (λ b. cond b (moved_by s (record_in cols i)) 0) (own_is_not (key i) own (is (key i)) (f (key i))))

  -- the ceder cedes by records of other keys and by the key's, and acquires by records of other keys only
  ceded_ceder : ceded (held cols n) (own / 8 % 8) (own / 64 % 4) (own / 256) s ≡ others (λ m. eqb (m / 8 % 8) (own / 8 % 8)) + power (held cols n) (key_from own) s
  unfolding ceded
  ceded_ceder =
      moved_split (cedes (own / 8 % 8) (own / 64 % 4) (own / 256)) (λ m. eqb (m / 8 % 8) (own / 8 % 8))
      (λ i. kind_packed (key i) own (eqb (key i / 8 % 8) (own / 8 % 8)))
      (ceder_ceder own)
      ∙ ap (λ t. others (λ m. eqb (m / 8 % 8) (own / 8 % 8)) + t)
      (own_power (λ m. eqb (m / 8 % 8) (own / 8 % 8)) (λ m e. eq-eqb _ _ (ap (λ t. t / 8 % 8) e)))

  acquired_acquirer : acquired (held cols n) (own % 8) (own / 64 % 4) (own / 256) s ≡ others (λ m. eqb (m % 8) (own % 8)) + power (held cols n) (key_from own) s
  unfolding acquired
  acquired_acquirer =
      moved_split (acquires (own % 8) (own / 64 % 4) (own / 256)) (λ m. eqb (m % 8) (own % 8))
      (λ i. kind_packed (key i) own (eqb (key i % 8) (own % 8)))
      (acquirer_acquirer own)
      ∙ ap (λ t. others (λ m. eqb (m % 8) (own % 8)) + t)
      (own_power (λ m. eqb (m % 8) (own % 8)) (λ m e. eq-eqb _ _ (ap (λ t. t % 8) e)))

  module _ (apart : own / 8 % 8 ≡ own % 8 → ⊥) where
    acquired_ceder : acquired (held cols n) (own / 8 % 8) (own / 64 % 4) (own / 256) s ≡ others (λ m. eqb (m % 8) (own / 8 % 8))
    unfolding acquired
    acquired_ceder =
        let e = moved_split (acquires (own / 8 % 8) (own / 64 % 4) (own / 256)) (λ m. eqb (m % 8) (own / 8 % 8))
        (λ i. kind_packed (key i) own (eqb (key i % 8) (own / 8 % 8)))
        (acquirer_ceder own) in
        let z = own_nothing (λ m. eqb (m % 8) (own / 8 % 8))
        (λ m e t. apart (sym (eqb-true _ _ t) ∙ ap (λ t. t % 8) e)) in
        omega (arith, e, z)

    ceded_acquirer : ceded (held cols n) (own % 8) (own / 64 % 4) (own / 256) s ≡ others (λ m. eqb (m / 8 % 8) (own % 8))
    unfolding ceded
    ceded_acquirer =
        let e = moved_split (cedes (own % 8) (own / 64 % 4) (own / 256)) (λ m. eqb (m / 8 % 8) (own % 8))
        (λ i. kind_packed (key i) own (eqb (key i / 8 % 8) (own % 8)))
        (ceder_acquirer own) in
        let z = own_nothing (λ m. eqb (m / 8 % 8) (own % 8))
        (λ m e t. apart (sym (ap (λ t. t / 8 % 8) e) ∙ eqb-true _ _ t)) in
        omega (arith, e, z)

-- ---- the nets of the ceder and the acquirer of a key, by what they start from

module _
    (cols : Columns) (n own : ℕ) (start r : Nets) (first until : ℕ)
    (netted : Netted cols n own start first until r)
    (k : Key) (packed : key_from own ≡ k) (apart : k.ceder ≡ k.acquirer → ⊥)
    (ceders acquirers : ℕ → ℕ)
    (ceder-starts : (s : ℕ) → first ≤ s → s < until → get_or start.ceder s 0 ≡ base + ceders s)
    (acquirer-starts : (s : ℕ) → first ≤ s → s < until → get_or start.acquirer s 0 ≡ base + acquirers s)
  where
    two : own / 8 % 8 ≡ own % 8 → ⊥
    two e = apart (ap (λ j. j.ceder) (sym packed) ∙ (e ∙ ap (λ j. j.acquirer) packed))

    -- loaded, plus what it acquires, less what it cedes, with the key's power given back
    pub ceder_net : (s : ℕ) → first ≤ s → s < until →
        get_or r.ceder s 0 + ceded (held cols n) k.ceder k.category k.day s
        ≡ base + ceders s + acquired (held cols n) k.ceder k.category k.day s + power (held cols n) k s
    ceder_net s h l =
        rw (← packed)
        (omega (arith, netted.ceder s h l, ceder-starts s h l, ceded_ceder cols n own s, acquired_ceder cols n own s two))

    -- loaded, plus what it acquires, less what it cedes and less the key's power
    pub acquirer_net : (s : ℕ) → first ≤ s → s < until →
        get_or r.acquirer s 0 + ceded (held cols n) k.acquirer k.category k.day s + power (held cols n) k s
        ≡ base + acquirers s + acquired (held cols n) k.acquirer k.category k.day s
    acquirer_net s h l =
        rw (← packed)
        (omega (arith, netted.acquirer s h l, acquirer-starts s h l, ceded_acquirer cols n own s two, acquired_acquirer cols n own s))

-- ---- the checks 32 to 35

-- what an actor has, and what it cedes, in the category and on the day of a key
abbrev gained_by : Ledger → Key → ℕ → ℕ → ℕ
gained_by l k who s = loaded l.loads who k.category k.day s + acquired l.records who k.category k.day s

abbrev given_by : Ledger → Key → ℕ → ℕ → ℕ
given_by l k who s = ceded l.records who k.category k.day s

module _
    (cols : Columns) (n own : ℕ) (start r : Nets) (first until : ℕ)
    (netted : Netted cols n own start first until r)
    (k : Key) (packed : key_from own ≡ k) (apart : k.ceder ≡ k.acquirer → ⊥)
    (l : Ledger) (records : l.records ≡ held cols n)
    (ceder-starts : (s : ℕ) → first ≤ s → s < until →
    get_or start.ceder s 0 ≡ base + loaded l.loads k.ceder k.category k.day s)
    (acquirer-starts : (s : ℕ) → first ≤ s → s < until →
    get_or start.acquirer s 0 ≡ base + loaded l.loads k.acquirer k.category k.day s)
    (ps : List ℕ)
  where
    -- the most that the ceder and the acquirer may have
    abbrev ceders_most : ℕ
    ceders_most = approved l.loads k.ceder k.category k.day

    abbrev acquirers_most : ℕ
    acquirers_most = approved l.loads k.acquirer k.category k.day

    module _ (s : ℕ) (h : first ≤ s) (i : s < until) where
      ceder_is : get_or r.ceder s 0 + given_by l k k.ceder s ≡ base + gained_by l k k.ceder s + power l.records k s
      ceder_is =
          rw records
          (omega (
            arith,
            ceder_net cols n own start r first until netted k packed apart
                (loaded l.loads k.ceder k.category k.day) (loaded l.loads k.acquirer k.category k.day)
                ceder-starts acquirer-starts s h i,
          ))

      acquirer_is : get_or r.acquirer s 0 + given_by l k k.acquirer s + power l.records k s ≡ base + gained_by l k k.acquirer s
      acquirer_is =
          rw records
          (omega (
            arith,
            acquirer_net cols n own start r first until netted k packed apart
                (loaded l.loads k.ceder k.category k.day) (loaded l.loads k.acquirer k.category k.day)
                ceder-starts acquirer-starts s h i,
          ))

      pub ceder_below_lem : ceder_below l k ps s ≡ ltb (get_or r.ceder s 0) (base + get_or ps s 0)
      unfolding ceder_below gained
      ceder_below_lem =
          same_order
          (gained_by l k k.ceder s + power l.records k s) (given_by l k k.ceder s + get_or ps s 0)
          (get_or r.ceder s 0) (base + get_or ps s 0)
          (λ t. omega (arith, ceder_is)) (λ t. omega (arith, ceder_is))

      pub acquirer_above_lem : acquirer_above l k ps s ≡ ltb (base + acquirers_most) (get_or r.acquirer s 0 + get_or ps s 0)
      unfolding acquirer_above gained
      acquirer_above_lem =
          same_order
          (acquirers_most + given_by l k k.acquirer s + power l.records k s) (gained_by l k k.acquirer s + get_or ps s 0)
          (base + acquirers_most) (get_or r.acquirer s 0 + get_or ps s 0)
          (λ t. omega (arith, acquirer_is)) (λ t. omega (arith, acquirer_is))

      pub ceder_above_lem : ceder_above l k ps s ≡ ltb (base + ceders_most + get_or ps s 0) (get_or r.ceder s 0)
      unfolding ceder_above gained
      ceder_above_lem =
          same_order
          (ceders_most + given_by l k k.ceder s + get_or ps s 0) (gained_by l k k.ceder s + power l.records k s)
          (base + ceders_most + get_or ps s 0) (get_or r.ceder s 0)
          (λ t. omega (arith, ceder_is)) (λ t. omega (arith, ceder_is))

      pub acquirer_below_lem : acquirer_below l k ps s ≡ ltb (get_or r.acquirer s 0 + get_or ps s 0) base
      unfolding acquirer_below gained
      acquirer_below_lem =
          same_order
          (gained_by l k k.acquirer s + get_or ps s 0) (given_by l k k.acquirer s + power l.records k s)
          (get_or r.acquirer s 0 + get_or ps s 0) base
          (λ t. omega (arith, acquirer_is)) (λ t. omega (arith, acquirer_is))

    found : (f g : ℕ → Bool) → ((s : ℕ) → first ≤ s → s < until → f s ≡ g s) → first_from f first (until - first) ≡ first_from g first (until - first)
    found f g e = first_agree f g first (until - first) (λ s a b. e s a (omega arith))

    -- the ledger's checks are those by the nets
    pub tests_agree :
        checks (ceder_below l k ps) (acquirer_above l k ps) (ceder_above l k ps) (acquirer_below l k ps) first until
        ≡ net_tests r ps ceders_most acquirers_most first until
    unfolding net_tests
    tests_agree =
        rw (
          found (ceder_below l k ps) (λ s. ltb (get_or r.ceder s 0) (base + get_or ps s 0)) ceder_below_lem,
          found (acquirer_above l k ps) (λ s. ltb (base + acquirers_most) (get_or r.acquirer s 0 + get_or ps s 0)) acquirer_above_lem,
          found (ceder_above l k ps) (λ s. ltb (base + ceders_most + get_or ps s 0) (get_or r.ceder s 0)) ceder_above_lem,
          found (acquirer_below l k ps) (λ s. ltb (get_or r.acquirer s 0 + get_or ps s 0) base) acquirer_below_lem,
        )

    pub verdicts-agree :
        first_met (checks (ceder_below l k ps) (acquirer_above l k ps) (ceder_above l k ps) (acquirer_below l k ps) first until)
        ≡ first_met (net_tests r ps ceders_most acquirers_most first until)
    verdicts-agree = ap first_met tests_agree
