-- A FILE WHOSE BODY COMES IN PIECES (document 02, K4): what is kept between two pieces, and what the end gives.
use Rattle.std.specs.Prelude.{Bool, cond, ◌&&◌, List, [], ◌∷◌, ◌++◌, ℕ, ◌+◌, ◌-◌, min, leb, ltb, eqb, length, take, drop, Result, Err}
use Rattle.lists.specs.Searches.{byte_from}
use Rattle.calendar.specs.Steps.{steps_of}
use Rattle.refusals.specs.Tests.{input}
use Rattle.refusals.specs.declared.InputRefusal.TheVariants.{Name, Body}
use Rattle.notification.specs.Forms.{places, six_bytes}
use Rattle.notification.specs.Writing.{header_of}
use Rattle.notification.specs.Reading.{name_key, is_name, body_most}
use Rattle.notification.specs.declared.Key.{Key}
use Rattle.notification.specs.declared.Notification.{Notification}
use Rattle.refusals.specs.declared.Refusal.{Refusal}
use Rattle.reader.specs.declared.pieces.FileReader.{FileReader}
use Rattle.reader.specs.Folding.{FileTaken, with_powers, no_lines, take_text, rest_of_text, concluded}

-- what is kept: of the name the day, its steps and the header's line with its LF, no bytes where the name is none; of the body its length
-- so far, what its whole lines have shown, and the line in hand
pub record InHand : Type 0 where
  pub day : ℕ
  pub steps : ℕ
  pub header : List ℕ
  pub length : ℕ
  pub taken : FileTaken
  pub line : List ℕ

-- the same of the struct, whatever its numbers are
abbrev pub in_hand : FileReader → InHand
in_hand r =
    record {
      day = r.day;
      steps = min r.steps places;
      header = take r.named r.header;
      length = r.length;
      taken = with_powers r.tally r.powers;
      line = take r.held r.line;
    }

-- BEGUN with a name
abbrev pub fresh_with : List ℕ → ℕ → InHand
fresh_with header day = record { day = day; steps = steps_of day; header = header; length = 0; taken = no_lines; line = [] }

unfoldable pub begun : List ℕ → InHand
begun name = cond (is_name name) (fresh_with (header_of (name_key name) ++ 10 ∷ []) (name_key name).day) (fresh_with [] 0)

-- "hold at most 64 body bytes between them": of the line in hand no more than these are kept
abbrev pub held_most : ℕ
held_most = 64

-- a body that is too long is one byte too long
abbrev pub too_many : ℕ
too_many = 4097

abbrev pub length_with : ℕ → List ℕ → ℕ
length_with n piece = min (n + length piece) too_many

-- the name is one: the shortest header's line has 50 bytes
abbrev pub has_name : List ℕ → Bool
has_name header = leb 50 (length header)

-- nothing more is looked at where the name is none or the body is too long
unfoldable pub counts : InHand → ℕ → InHand
counts x n = record { day = x.day; steps = x.steps; header = x.header; length = n; taken = x.taken; line = x.line }

-- a text that begins where a line does, after what the lines before it have shown
unfoldable pub walked : InHand → ℕ → FileTaken → List ℕ → InHand
walked x n taken text =
    record {
      day = x.day;
      steps = x.steps;
      header = x.header;
      length = n;
      taken = take_text x.header x.steps taken text;
      line = take held_most (rest_of_text x.header taken.header text);
    }

-- the line in hand goes on, up to a place of the piece
unfoldable pub gone_on : List ℕ → List ℕ → ℕ → List ℕ
gone_on line piece end = take held_most (line ++ take end piece)

-- where the piece has no LF, the line in hand only grows; else it ends there, and the rest of the piece begins where a line does
unfoldable pub continued : InHand → ℕ → List ℕ → ℕ → InHand
continued x n piece end =
    cond (leb (length piece) end)
    (record { day = x.day; steps = x.steps; header = x.header; length = n; taken = x.taken; line = gone_on x.line piece end })
    (walked x n (take_text x.header x.steps x.taken (gone_on x.line piece end ++ 10 ∷ [])) (drop (end + 1) piece))

-- A PIECE MORE
unfoldable pub fed : InHand → List ℕ → InHand
fed x piece =
    let n = length_with x.length piece in
    cond (has_name x.header && leb n body_most)
    (cond (eqb (length x.line) 0) (walked x n x.taken piece) (continued x n piece (byte_from 10 piece 0)))
    (counts x n)

-- the key that the header's line and the day give
abbrev pub key_of : List ℕ → ℕ → Key
key_of header day =
    record {
      ceder = take 16 header;
      acquirer = take 16 (drop 17 header);
      category = six_bytes (drop 43 (take (length header - 2) header));
      day = day;
    }

-- THE END: 1, then 2, then what the lines come to
unfoldable pub ended : InHand → Result Notification Refusal
ended x =
    cond (has_name x.header)
    (cond (ltb 0 x.length && leb x.length body_most && eqb (length x.line) 0)
    (concluded (key_of x.header x.day) x.steps x.taken)
    (Err (input Body)))
    (Err (input Name))

-- PIECES ONE AFTER ANOTHER
unfoldable pub fed_all : InHand → List (List ℕ) → InHand
fed_all x [] = x
fed_all x (p ∷ ps) = fed_all (fed x p) ps

-- what they are together
abbrev pub joined_pieces : List (List ℕ) → List ℕ
joined_pieces [] = []
joined_pieces (p ∷ ps) = p ++ joined_pieces ps
