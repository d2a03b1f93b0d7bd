use Rattle.le_templates.proofs.SkeletonLemmas.{skeleton_from_key, key_from_skeleton}
use Rattle.le_templates.proofs.skeleton.one_key.Goals as goal

pub returns : goal.returns
returns c = λ a b. (skeleton_from_key a b, key_from_skeleton a b)
