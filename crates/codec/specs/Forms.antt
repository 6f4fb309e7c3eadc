-- The forms of the codecs' contracts: what an answer says of the definition, and what a caller may know besides.
use Rattle.std.specs.Prelude.{◌≡◌, ◌∷◌, ◌++◌, ℕ, ◌-◌, ◌≤◌, length, replicate, ltb, Option, None, Some, Result, Ok, Err}
use Rattle.definition.specs.Tools.{Bytes, pick, opt}
use Rattle.definition.specs.Codec.{Op, Put, Delete, key_read, key_in, op_fault, encode, encode_into, laid_if}
use Rattle.definition.specs.declared.Fault.{Fault}
use Rattle.definition.specs.declared.Fault.TheVariants.{Serialization}
use Rattle.definition.specs.declared.SerializationKind.TheVariants.{BufferTooSmall}
use Rattle.definition.specs.Answers.{CodecAnswer}
use Rattle.codec.specs.declared.KeyRead.{KeyRead}
use Rattle.codec.specs.declared.OpKind.{OpKind}
use Rattle.codec.specs.declared.OpKind.TheVariants as K

-- a key's bytes, then zeros
unfoldable pub padded : Bytes → Bytes
padded k = k ++ replicate (96 - length k) 0

-- how many bytes a key takes: it lies inside, and is short
abbrev pub KeyInside : Bytes → CodecAnswer → Type 0
KeyInside s (Ok n) = (1 ≤ n) × (n ≤ 97) × (n ≤ length s)
KeyInside s (Err f) = Unit {0}

pub record KeyLens (s : Bytes) (r : CodecAnswer) : Type 0 where
  pub is : r ≡ key_read s
  pub inside : KeyInside s r

-- what reading a key from s gives: the key that lies there with its zeros, and how many bytes it took
unfoldable pub key_front : CodecAnswer → Bytes → Result KeyRead Fault
key_front (Ok n) s =
    Ok (record { key = record { bytes = padded (key_in (Ok n) s); len = length (key_in (Ok n) s) }; taken = n })
key_front (Err f) s = Err f

unfoldable pub key_reads : Bytes → Result KeyRead Fault
key_reads s = key_front (key_read s) s

-- the tests' answer
unfoldable pub checked_of : Option Fault → Result (Unit {0}) Fault
checked_of None = Ok tt
checked_of (Some f) = Err f

-- what passes the tests is short
abbrev pub Bounded : Bytes → Bytes → Result (Unit {0}) Fault → Type 0
Bounded k v (Ok x) = (length k ≤ 96) × (length v ≤ 256)
Bounded k v (Err f) = Unit {0}

-- r is what these tests of a key and a value answer
pub record Checks (tests : Option Fault) (k v : Bytes) (r : Result (Unit {0}) Fault) : Type 0 where
  pub is : r ≡ checked_of tests
  pub bounds : Bounded k v r

-- the bytes of an entry with this operation byte
unfoldable pub entry_bytes : ℕ → Bytes → Bytes → Bytes
entry_bytes op k v = op ∷ length k ∷ (k ++ v)

unfoldable pub entry_answer : Option Fault → ℕ → ℕ → CodecAnswer
entry_answer o n room = opt o (pick (ltb room n) (Err (Serialization BufferTooSmall)) (Ok n)) Err

pub record EntryWrites (op : ℕ) (k v out after : Bytes) (r : CodecAnswer) : Type 0 where
  pub is : r ≡ entry_answer (op_fault (Put k v)) (length (entry_bytes op k v)) (length out)
  pub made : after ≡ laid_if r (entry_bytes op k v) out

-- the operation of this kind: a delete has no value
unfoldable pub op_as : OpKind → Bytes → Bytes → Op
op_as K.Put k v = Put k v
op_as K.Delete k v = Delete k

-- what encoding an operation into `out` answers and leaves
pub record Encodes (op : Op) (out after : Bytes) (r : CodecAnswer) : Type 0 where
  pub is : r ≡ encode_into op (length out)
  pub made : after ≡ laid_if r (encode op) out
