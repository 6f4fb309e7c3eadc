use Rattle.definition.proofs.Image.{good_parts}
use Rattle.region.proofs.remove.Goals as goal

pub find-requires : goal.find-requires
find-requires c = (good_parts _ c.requires.region_value).0

pub survey-requires : goal.survey-requires
survey-requires c = (good_parts _ c.requires.region_value).0
