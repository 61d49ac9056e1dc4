-- The key in a text of four parts, as the reader finds it.
use Rattle.std.specs.Prelude.{Bool, cond, ◌&&◌, List, ℕ, Option, Some, None}
use Rattle.lists.specs.Searches.{same}
use Rattle.notification.specs.Writing.{key_text}
use Rattle.notification.specs.Reading.{key_in, name_key, valid_key, is_name}
use Rattle.notification.specs.declared.Key.{Key}

-- a text is a key's, parted by a byte: its parts are valid, and it is the text that they give
unfoldable pub is_key : ℕ → List ℕ → Bool
is_key by s = valid_key (key_in s) && same s (key_text by (key_in s))

unfoldable pub key_read : ℕ → List ℕ → Option Key
key_read by s = cond (is_key by s) (Some (key_in s)) None

-- a name is a key's
unfoldable pub name_read : List ℕ → Option Key
name_read name = cond (is_name name) (Some (name_key name)) None
