use mathlib.Core.Path.{ap, ◌∙◌}
use Rattle.exports.specs.Codecs.{codec_out}
use Rattle.exports.proofs.codecs.takes_key_len.Goals as goal

pub returns : goal.returns
returns c = c.from.ensures ∙ ap codec_out c.get_len.ensures
