-- What a line does by what was read of it.
use mathlib.Core.Path.{◌≡◌, refl, sym, ap, ap₂, ◌∙◌}
use mathlib.Core.Bool.{true}
use Rattle.std.specs.Prelude.{Some, None, Result}
use mathlib.Core.List.{List}
use Prim.Native.Nat.{ℕ, ◌≤◌}
use lib.ListN.{length, take}
use lib.Seq.{length-take-le}
use Rattle.lists.proofs.Tests.{true_false}
use Rattle.ledger.specs.Ledger.{Ledger}
use Rattle.ledger.specs.Asking.{ask_engagement, ask_record}
use Rattle.refusals.specs.declared.Refusal.{Refusal}
use Rattle.ledger.specs.declared.Entry.TheVariants.{SevenDays}
use Rattle.ledger.specs.declared.Shown.{Shown}
use Rattle.answers.specs.Values.{said_number, said_shown, said_refused}
use Rattle.answers.specs.declared.Said.{Said}
use Rattle.register.specs.View.{Register, held}
use Rattle.register.specs.Written.{Done, seen, does, does_reading}
use Rattle.register.specs.Told.{told, tells}
use Rattle.script.specs.Lines.{Asked, calls, file_of, engagement, record_of, unknown}
use Rattle.script.specs.Spans.{first_text, second_text, powers_of, call_of, asked_of, asked}
use Rattle.script.specs.declared.reading.CallKind.{CallKind}
use Rattle.script.specs.declared.reading.Kind.{Kind}
use Rattle.script.specs.declared.reading.Kind.TheVariants.{Calls, Files, Engagement, RecordOf, Unknown}
use Rattle.script.specs.declared.reading.Line.{Line}
use Rattle.answers.specs.Values.{said_of}
use Rattle.register.specs.declared.Reply.{Reply}
use Rattle.session.specs.declared.store.Store.{Store}
use Rattle.session.specs.Stores.{register_in}
use Rattle.session.specs.Lines.{Reading, File, no_call, only_asks, ask_step, line_step}

-- A LINE THAT ONLY ASKS is answered as the definition of a line's step has it
pub asks_only : (r : Register) (file : File) (a : Asked) → only_asks a ≡ true → line_step r file a ≡ tells r (ask_step (held r) a)
unfolding only_asks ask_step line_step
asks_only r file (calls c) e = true_false true refl (sym e)
asks_only r file (file_of submitter name) e = true_false true refl (sym e)
asks_only r file (engagement actor category day s) e = refl
asks_only r file (record_of asker id) e = refl
asks_only r file unknown e = refl

-- ---- by its kind

module _ (x y : List ℕ) (day n : ℕ) (powers : List ℕ) where
  none_of : (l : Ledger) (k : Kind) → (k ≡ Engagement → ⊥) → (k ≡ RecordOf → ⊥) → said_refused no_call ≡ ask_step l (asked_of k x y day n powers)
  unfolding ask_step
  none_of l (Calls call) e f = refl
  none_of l Files e f = refl
  none_of l Engagement e f = absurd (e refl)
  none_of l RecordOf e f = absurd (f refl)
  none_of l Unknown e f = refl

  asks_of : (k : Kind) → ((call : CallKind) → k ≡ Calls call → ⊥) → (k ≡ Files → ⊥) → only_asks (asked_of k x y day n powers) ≡ true
  unfolding only_asks
  asks_of (Calls call) e f = absurd (e call refl)
  asks_of Files e f = absurd (f refl)
  asks_of Engagement e f = refl
  asks_of RecordOf e f = refl
  asks_of Unknown e f = refl

module _ (line : List ℕ) (r : Line) where
  asked_by : {k : Kind} → r.kind ≡ k → asked line r ≡ asked_of k (first_text line r) (second_text line r) r.day r.number (powers_of line r)
  unfolding asked
  asked_by e = ap (λ (k : Kind). asked_of k (first_text line r) (second_text line r) r.day r.number (powers_of line r)) e

  -- what a line that only asks says
  module _ (l : Ledger) {said : Said} where
    pub engagement_said : r.kind ≡ Engagement → said ≡ said_number (ask_engagement l (first_text line r) (second_text line r) r.day r.number) →
        said ≡ ask_step l (asked line r)
    unfolding ask_step
    engagement_said e f = f ∙ ap (ask_step l) (sym (asked_by e))

    pub record_said : {x : List ℕ} {a : Result Shown Refusal} → r.kind ≡ RecordOf → said ≡ said_shown a → a ≡ ask_record l x r.number → x ≡ first_text line r →
        said ≡ ask_step l (asked line r)
    unfolding ask_step
    record_said e f g h = f ∙ ap said_shown (g ∙ ap (λ (x : List ℕ). ask_record l x r.number) h) ∙ ap (ask_step l) (sym (asked_by e))

    pub none_said : (r.kind ≡ Engagement → ⊥) → (r.kind ≡ RecordOf → ⊥) → said ≡ said_refused no_call → said ≡ ask_step l (asked line r)
    unfolding asked
    none_said e g f = f ∙ none_of (first_text line r) (second_text line r) r.day r.number (powers_of line r) l r.kind e g

  -- what a line does
  module _ (reg : Register) (file : File) where
    pub calls_line : {call : CallKind} → r.kind ≡ Calls call →
        told (does reg (call_of call (first_text line r) (second_text line r) r.day r.number (powers_of line r))) ≡ line_step reg file (asked line r)
    unfolding line_step
    calls_line e = ap (line_step reg file) (sym (asked_by e))

    pub files_line : r.kind ≡ Files → line_step reg file (file_of (first_text line r) (second_text line r)) ≡ line_step reg file (asked line r)
    files_line e = ap (line_step reg file) (sym (asked_by e))

    pub asks_line : ((call : CallKind) → r.kind ≡ Calls call → ⊥) → (r.kind ≡ Files → ⊥) → tells reg (ask_step (held reg) (asked line r)) ≡ line_step reg file (asked line r)
    unfolding asked
    asks_line e f = sym (asks_only reg file _ (asks_of (first_text line r) (second_text line r) r.day r.number (powers_of line r) r.kind e f))

-- ---- calls

-- a call by its kind, its texts and its powers
pub called_by : (reg : Register) (day n : ℕ) {call k : CallKind} {x x' y y' powers powers' : List ℕ} → call ≡ k → x ≡ x' → y ≡ y' → powers ≡ powers' →
    told (does reg (call_of k x y day n powers)) ≡ told (does reg (call_of call x' y' day n powers'))
called_by reg day n e f g h = rw (e, f, g, h) refl

-- the first powers are so many
pub counted : (n : ℕ) (powers : List ℕ) → n ≤ length powers → n ≡ length (take n powers)
counted n powers h = sym (length-take-le n powers h)

-- a file that can't be read, and one that can
module _ (reg : Register) where
  pub none_filed : (x y : List ℕ) {said : Said} → said ≡ said_refused no_call → tells reg said ≡ line_step reg None (file_of x y)
  unfolding line_step
  none_filed x y f = rw f refl

  pub one_filed : (reading : Reading) {x x' : List ℕ} (y : List ℕ) → x ≡ x' →
      told (does_reading reg SevenDays x reading) ≡ line_step reg (Some reading) (file_of x' y)
  unfolding line_step
  one_filed reading y f = rw f refl

-- ---- a call leaves a head, and says something

pub settled : {n next : Store} {said : Said} {d : Done} (y : Reply) → (next ≡ n) × (said ≡ said_of y.answer) → seen (register_in n) y.answer ≡ d →
    tells (register_in next) said ≡ told d
settled y e f = ap₂ (λ (n : Store) (a : Said). tells (register_in n) a) e.0 e.1 ∙ ap told f
