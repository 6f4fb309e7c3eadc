-- What crosses of the codecs: an answer, a key that was read, and an order, as plain numbers.
use Rattle.std.specs.Prelude.{◌≡◌, ℕ, length, eqb, Ok, Err}
use Rattle.std.specs.declared.cmp.Ordering.{Ordering}
use Rattle.std.specs.declared.cmp.Ordering.TheVariants.{Less, Equal, Greater}
use Rattle.definition.specs.Tools.{Bytes, pick}
use Rattle.definition.specs.Codec.{key_in, laid_if}
use Rattle.definition.specs.Answers.{CodecAnswer}
use Rattle.codec.specs.Forms.{padded}
use Rattle.codec.specs.declared.OpKind.{OpKind}
use Rattle.codec.specs.declared.OpKind.TheVariants as K
use Rattle.exports.specs.declared.Word.{Word}
use Rattle.exports.specs.declared.codecs.CCodec.{CCodec}
use Rattle.exports.specs.declared.codecs.CKey.{CKey}
use Rattle.exports.specs.Forms.{says, refuses}

abbrev pub said_of : Word → CCodec
said_of w =
    record { answer = w.answer; number = w.number; v0 = w.values.0; v1 = w.values.1; v2 = w.values.2; length = w.length }

abbrev pub codec_out : CodecAnswer → CCodec
codec_out (Ok n) = said_of (says 1 0 n)
codec_out (Err f) = said_of (refuses f 0 0)

-- the answer to reading, and the key at the front of s that goes with it
abbrev pub key_out : CodecAnswer → Bytes → CKey
key_out a s = record { said = codec_out a; bytes = padded (key_in a s); len = length (key_in a s) }

unfoldable pub order_number : Ordering → ℕ
order_number Less = 0
order_number Equal = 1
order_number Greater = 2

unfoldable pub kind_of : ℕ → OpKind
kind_of n = pick (eqb n 2) K.Delete K.Put

-- a writer that is to answer a, and to lay m over the output where it is no refusal
pub record Writes (a : CodecAnswer) (m out : Bytes) (r : CCodec) (after : Bytes) : Type 0 where
  pub said : r ≡ codec_out a
  pub made : after ≡ laid_if a m out
