-- What the theorem speaks of happens: a script whose first line is cut in two by its blocks and whose last one lacks its LF and names a file that
-- can't be read, run on lent columns and buffers of zeros.
use Rattle.std.proofs.Common.{◌≡◌, ℕ, false, List, [], ◌∷◌, replicate, refl, ◌∙◌, arith}
use lib.ListN.{length-replicate}
use Rattle.lists.proofs.All.{all_none, all_more}
use Rattle.ledger.specs.Ledger.{fresh, category_at}
use Rattle.lists.specs.Searches.{place_of}
use Rattle.notification.specs.Forms.{is_category}
use Rattle.ledger.specs.Calls.{step, verdict_of, effect, category_tests}
use Rattle.register.specs.Written.{fresh_register}
use Rattle.register.proofs.RunsExist.{fresh_begun}
use Rattle.register.proofs.Witness.{zeros, no_loads, zeros_sized, loads_sized}
use Rattle.script.specs.Numbers.{decimal_in}
use Rattle.script.specs.Lines.{fields, category_line, file_line, by_letter, line_of}
use Rattle.script.specs.Answers.{value_text, values_text, said_text, answer_line}
use Rattle.lines.specs.Scripts.{lines_after, lines_of, joined, Files, line_says, printed}
use Rattle.lines.proofs.Whole.{out_of}
use Rattle.lines.proofs.RunsExist.{Runs, begins, every_script_runs}

-- `C,12`, and then `345` with its LF and `F,X,Y`
abbrev blocks : List (List ℕ)
blocks = (67 ∷ 44 ∷ 49 ∷ 50 ∷ []) ∷ (51 ∷ 52 ∷ 53 ∷ 10 ∷ 70 ∷ 44 ∷ 88 ∷ 44 ∷ 89 ∷ []) ∷ []

abbrev none_there : Files
none_there n name = record { readable = false; body = [] }

abbrev input : List ℕ
input = replicate 600 0

abbrev output : List ℕ
output = replicate 64 0

-- `1,ok,1` and `2,no,11,0`, each with its LF
abbrev answers : List ℕ
answers = 49 ∷ 44 ∷ 111 ∷ 107 ∷ 44 ∷ 49 ∷ 10 ∷ 50 ∷ 44 ∷ 110 ∷ 111 ∷ 44 ∷ 49 ∷ 49 ∷ 44 ∷ 48 ∷ 10 ∷ []

pub ran : Runs none_there blocks (begins fresh_register zeros no_loads input output)
ran =
    let n = length-replicate {A = ℕ} 600 0 in
    every_script_runs none_there blocks fresh_register fresh_begun zeros no_loads zeros_sized loads_sized input output (omega (arith, n)) (omega (arith, length-replicate {A = ℕ} 64 0))
    (all_more (omega (arith, n)) (all_more (omega (arith, n)) all_none))

said : printed none_there fresh 1 (lines_of (joined blocks)) ≡ answers
unfolding printed lines_after line_says line_of fields category_line file_line by_letter answer_line said_text values_text value_text decimal_in step verdict_of effect category_tests is_category category_at place_of
said = refl

-- each line is answered, and the answers are all that is printed
pub printed_so : out_of ran.standing ≡ answers
printed_so = ran.prints (omega arith) ∙ said
