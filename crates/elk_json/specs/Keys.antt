-- Ids as they stand in a value.
use Rattle.std.specs.Prelude.{Bool, false, bytes_eq, Option, Some, None}
use Rattle.std.specs.Ordering.{int_eq}
use Rattle.elk_doc.specs.declared.document.Id.{Id}
use Rattle.elk_doc.specs.declared.document.Id.TheVariants as id
use Rattle.elk_json.specs.declared.key.Key.{Key}
use Rattle.elk_json.specs.declared.key.Key.TheVariants.{Text, Whole}

abbrev pub key_id : Key → Id
key_id (Text s) = id.Text s.now
key_id (Whole n) = id.Whole n

-- `==` of keys
abbrev pub is_same_key : Key → Key → Bool
is_same_key (Text a) (Text b) = bytes_eq a.now b.now
is_same_key (Text a) (Whole n) = false
is_same_key (Whole m) (Text b) = false
is_same_key (Whole m) (Whole n) = int_eq m n

-- the key is there, and the same
abbrev pub is_key : Key → Option Key → Bool
is_key k None = false
is_key k (Some l) = is_same_key k l
