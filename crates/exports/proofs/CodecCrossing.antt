-- How a codec's answer crosses, and what was written or read with it.
use mathlib.Core.Path.{◌≡◌, refl, sym, ap, ap₂, ◌∙◌, subst}
use lib.ListN.{length, replicate}
use Rattle.std.specs.Prelude.{Result, Ok, Err}
use Rattle.definition.specs.Tools.{Bytes}
use Rattle.definition.specs.Codec.{key_read, key_in, encode, encode_into, laid_if}
use Rattle.definition.specs.declared.Fault.{Fault}
use Rattle.definition.specs.Answers.{CodecAnswer}
use Rattle.codec.specs.Forms.{padded, key_front, key_reads, op_as, Encodes}
use Rattle.codec.specs.declared.KeyRead.{KeyRead}
use Rattle.codec.specs.declared.OpKind.{OpKind}
use Rattle.exports.specs.declared.codecs.CCodec.{CCodec}
use Rattle.exports.specs.declared.codecs.CKey.{CKey}
use Rattle.exports.specs.Codecs.{codec_out, key_out, Writes}

-- ---- a key that was read

-- what crosses of what reading gives
abbrev crossed : Result KeyRead Fault → CCodec → CKey
crossed (Ok r) said = record { said = said; bytes = r.key.bytes; len = r.key.len }
crossed (Err f) said = record { said = said; bytes = replicate 96 0; len = 0 }

front_is : (a : CodecAnswer) (s : Bytes) → crossed (key_front a s) (codec_out a) ≡ key_out a s
unfolding key_front key_in padded
front_is (Ok n) s = refl
front_is (Err f) s = refl

-- how many bytes it took
abbrev taken : Result KeyRead Fault → CodecAnswer
taken (Ok r) = Ok r.taken
taken (Err f) = Err f

taken_is : (a : CodecAnswer) (s : Bytes) → taken (key_front a s) ≡ a
unfolding key_front
taken_is (Ok n) s = refl
taken_is (Err f) s = refl

pub key_is : (s : Bytes) {r x : Result KeyRead Fault} {said : CCodec} → said ≡ codec_out (taken x) → r ≡ key_reads s → r ≡ x
    → crossed x said ≡ key_out (key_read s) s
unfolding key_reads
key_is s {x = x} {said = said} ea e z =
    let q : x ≡ key_front (key_read s) s = sym z ∙ e in
    ap₂ (λ (r : Result KeyRead Fault) (n : CCodec). crossed r n) q (ea ∙ ap (λ (r : Result KeyRead Fault). codec_out (taken r)) q ∙ ap codec_out (taken_is (key_read s) s))
    ∙ front_is (key_read s) s

-- ---- what was written

pub writes : {a b : CodecAnswer} {m out after : Bytes} {r : CCodec} → r ≡ codec_out a → a ≡ b → after ≡ laid_if a m out → Writes b m out r after
writes {m = m} {out = out} er e w = record { said = er ∙ ap codec_out e; made = w ∙ ap (λ (x : CodecAnswer). laid_if x m out) e }

pub encodes : (k v : Bytes) {x y : OpKind} {out after : Bytes} {a : CodecAnswer} {r : CCodec} → x ≡ y → r ≡ codec_out a → Encodes (op_as x k v) out after a
    → Writes (encode_into (op_as y k v) (length out)) (encode (op_as y k v)) out r after
encodes k v {out = out} {after = after} {a = a} e er h =
    let g = subst (λ (x : OpKind). Encodes (op_as x k v) out after a) e h in
    writes er g.is g.made
