-- "Uniqueness of that outcome is proved", of the exported calls: two replies, with the region and the output after
-- them, that meet a contract are equal. `takes_space`'s contract is an equation of its answer:
-- definition/proofs/Determined's first law.
use mathlib.Core.Path.{◌≡◌}
use Rattle.definition.specs.Tools.{Bytes}
use Rattle.definition.specs.Public.{Outcome}
use Rattle.definition.specs.Answers.{CodecAnswer}
use Rattle.definition.proofs.Determined.{determined}
use Rattle.exports.specs.declared.CReply.{CReply}
use Rattle.exports.specs.declared.Word.{Word}
use Rattle.exports.specs.declared.codecs.CCodec.{CCodec}
use Rattle.exports.specs.Forms.{Hears}
use Rattle.exports.specs.Codecs.{Writes}

pub reply_determined : {A : Type 0} {out : A → Word} {r q : CReply} {region other output shown : Bytes} {o : Outcome A} → Hears out r region output o → Hears out q other shown o
    → (r ≡ q) × (region ≡ other) × (output ≡ shown)
reply_determined a b = (determined a.reply b.reply, determined a.bytes b.bytes, determined a.handed b.handed)

-- the two codecs that write; what the others answer is an equation, as `takes_space`'s
pub written_determined : {a : CodecAnswer} {made out after other : Bytes} {r q : CCodec} → Writes a made out r after
    → Writes a made out q other → (r ≡ q) × (after ≡ other)
written_determined d e = (determined d.said e.said, determined d.made e.made)
