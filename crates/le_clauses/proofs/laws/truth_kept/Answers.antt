use Rattle.std.proofs.Common.{refl, inl, ◌∷◌}
use Rattle.le_clauses.proofs.TruthKept.{rule_kept, query_kept}
use Rattle.le_clauses.proofs.laws.truth_kept.Goals as goal

pub returns-clause-rules : goal.returns-clause-rules
returns-clause-rules c = λ first others set base pred line head condition by plain low. rule_kept (first ∷ others) first (inl refl) set base condition plain pred low line head by

pub returns-clause-queries : goal.returns-clause-queries
returns-clause-queries c = λ first others set base pred section scope condition by plain low. query_kept (first ∷ others) first (inl refl) set base condition plain pred low section scope by
