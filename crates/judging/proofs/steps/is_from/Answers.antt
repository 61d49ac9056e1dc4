-- `steps::is_from` meets its contract: from the least number on the difference is what is more; below it, it wraps above all of these.
use Rattle.std.proofs.Common.{◌≡◌, ℕ, ◌+◌, ◌-◌, ◌%◌, ◌<◌, ◌≤◌, ◌&&◌, ltb, leb, arith, ltb-false, ltb-true, le-leb, leb-false, leb-true}
use borrow.Author.Tests.{lt-leb}
use Rattle.lists.proofs.Tests.{by_test}
use Rattle.judging.proofs.steps.is_from.Goals as goal

module _ (x least more : ℕ) (fits : x < 4294967296) (low : least ≤ 4294901760) (few : more ≤ 65535) where
  abbrev difference : ℕ
  difference = (x + (4294967296 - least)) % 4294967296

  plain : least ≤ x → leb difference more ≡ (leb least x && leb x (least + more))
  plain h =
      let d : difference ≡ x - least = omega arith in
      by_test (leb difference more)
      (λ t. let l = leb-true difference more t in rw (t, le-leb least x h, le-leb x (least + more) (omega arith)))
      (λ t. let l = leb-false difference more t in rw (t, le-leb least x h, lt-leb x (least + more) (omega arith)))

  wraps : x < least → leb difference more ≡ (leb least x && leb x (least + more))
  wraps h =
      let d : difference ≡ x + (4294967296 - least) = omega arith in
      rw (lt-leb difference more (omega arith), lt-leb least x h)

  from_is : leb difference more ≡ (leb least x && leb x (least + more))
  from_is =
      by_test (ltb x least)
      (λ t. wraps (ltb-true x least t))
      (λ t. plain (ltb-false x least t))

pub returns : goal.returns
returns c = from_is _ _ _ (omega arith) c.requires.0 c.requires.1
