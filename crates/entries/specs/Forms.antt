-- The form of an entry's contract: what an answer says of the definition, and what a caller may know besides.
use Rattle.std.specs.Prelude.{◌≡◌, ◌+◌, ◌≤◌, length}
use Rattle.definition.specs.Tools.{Bytes}
use Rattle.definition.specs.Codec.{entry_of}
use Rattle.definition.specs.declared.Entry.{Entry}
use Rattle.definition.specs.declared.Entry.TheVariants as E

-- the key of an entry that is not corrupt lies inside and may be stored, and so does the value of a put
abbrev pub Inside : Bytes → Entry → Type 0
Inside v (E.Put n) = (2 + n ≤ length v) × (n ≤ 96) × (length v ≤ 258 + n)
Inside v (E.Delete n) = (2 + n ≤ length v) × (n ≤ 96)
Inside v E.Corrupt = Unit {0}

pub record EntryReads (v : Bytes) (e : Entry) : Type 0 where
  pub is : e ≡ entry_of v
  pub inside : Inside v e
