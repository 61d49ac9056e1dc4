-- `words::same_text` meets its contract: numbers of four or eight bytes cover the text.
use mathlib.Core.Path.{◌≡◌, refl, sym, ◌∙◌}
use Prim.Native.Nat.{◌+◌, ◌-◌, ◌*◌, ◌/◌}
use native.Mathlib.Omega.{arith}
use lib.ListN.{length}
use Rattle.std.proofs.Common.{rules, tests}
use Rattle.std.specs.List.{list_all, range_with_len}
use Rattle.std.proofs.lemmas.Iterator.{YieldsList-from_range}
use Rattle.std.proofs.lemmas.Iterator.Search.{all_from_yields_List}
use Rattle.request_reader.proofs.ByteNumbers.{text_two, text_last, words, words_alike, words_differ}
use Rattle.request_reader.proofs.words.same_text.Goals as goal
use Rattle.request_reader.proofs.words.same_text.Goals.{After-all}

pub returns-then-n-lt8 : goal.returns-then-n-lt8
returns-then-n-lt8 c =
    rw (c.four_at.ensures, c.four_at-then-n-lt8.ensures)
    (text_two c.args.s.now c.args.text.now c.args.at c.requires 4
    c.if-n-lt4.false (omega (arith, c.if-n-lt8.true)))

words_found : (c : After-all)
    → let n = length c.args.text.now in c.all.result ≡ list_all (words c.args.s.now c.args.text.now c.args.at c.requires) (range_with_len 0 ((n - 1) / 8))
words_found c =
    all_from_yields_List (words c.args.s.now c.args.text.now c.args.at c.requires) _ _ c.all.result c.all.ensures.ran
    (YieldsList-from_range 0 _ ((length c.args.text.now - 1) / 8) refl (omega arith)) (λ x b q k. search (rules, tests))

pub returns-then-all : goal.returns-then-all
returns-then-all c =
    let s = c.args.s.now in
    let text = c.args.text.now in
    let at = c.args.at in
    let h = c.requires in
    let long = c.if-n-lt8.false in
    let m = (length text - 1) / 8 in
    let a = words_alike s text at h m 0 (omega arith) (λ i l. absurd (omega arith)) (sym (words_found (goal.at.returns-then-all c).After-all) ∙ c.if-all.true) in
    c.eight_at.ensures ∙ text_last s text at h (8 * (0 + m)) 8 (omega arith) long a

pub returns-else-all : goal.returns-else-all
returns-else-all c =
    let s = c.args.s.now in
    let text = c.args.text.now in
    let long = c.if-n-lt8.false in
    c.if-all.false
    ∙ words_differ s text c.args.at c.requires ((length text - 1) / 8) 0 (omega arith) (sym (words_found (goal.at.returns-else-all c).After-all) ∙ c.if-all.false)
