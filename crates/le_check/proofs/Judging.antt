-- The verdict by the cut and the replay.
use Rattle.std.proofs.Common.{◌≡◌, List, length, Option, Some, None, Result, Ok, Err, refl, sym, ap, ◌∙◌, subst}
use Rattle.std.specs.Prelude.{option_map, IfOk}
use Rattle.le_terms.specs.declared.program.Program.{Program}
use Rattle.le_proofs.specs.declared.node.Node.{Node}
use Rattle.le_proofs.specs.Replay.{Proven, refused, behind, compared, settled, cut_of, after_cut, verdict_of, replay_of}
use Rattle.le_check.specs.declared.replaying.Proven as code
use Rattle.le_check.specs.declared.replaying.Fault as code_fault
use Rattle.le_check.specs.declared.replaying.Replay as code_replay
use Rattle.le_check.specs.declared.replaying.Replay.TheVariants.{Through, Stopped}
use Rattle.le_check.specs.declared.verdict.Verdict as code_verdict
use Rattle.le_check.specs.Replays.{IsReplay, IsProven, fault_of}
use Rattle.le_check.specs.Verdicts.{verdict_by}

module _ (program : Program) (nodes : List Node) (cut : Option code_fault.Fault) (is : option_map fault_of cut ≡ cut_of program nodes) where
  -- the cut has a fault
  pub cut-refuses : (fault : code_fault.Fault) → cut ≡ Some fault → refused fault.node fault.why ≡ verdict_of program nodes
  unfolding verdict_of
  cut-refuses fault found = ap (after_cut program nodes) (sym (ap (option_map fault_of) found) ∙ is)

  uncut : ((fault : code_fault.Fault) → cut ≡ Some fault → ⊥) → cut_of program nodes ≡ None
  uncut none = sym is ∙ by cut refl
    where
      by : (o : Option code_fault.Fault) → cut ≡ o → option_map fault_of o ≡ None
      by None same = refl
      by (Some fault) same = absurd (none fault same)

  by-replay : ((fault : code_fault.Fault) → cut ≡ Some fault → ⊥) → settled program nodes (replay_of program nodes).answer ≡ verdict_of program nodes
  unfolding verdict_of
  by-replay none = ap (after_cut program nodes) (sym (uncut none))

  module _ (none : (fault : code_fault.Fault) → cut ≡ Some fault → ⊥) (replay : code_replay.Replay) (came : IsReplay replay (replay_of program nodes).answer) where
    -- the replay has a fault
    pub replay-refuses : (fault : code_fault.Fault) → replay ≡ Stopped fault → refused fault.node fault.why ≡ verdict_of program nodes
    replay-refuses fault found =
        let stopped : (replay_of program nodes).answer ≡ Err (fault_of fault) = subst (λ r. IsReplay r (replay_of program nodes).answer) found came in
        sym (ap (settled program nodes) stopped) ∙ by-replay none

    -- it came through
    pub through : {E : Type 0} (kept : code.Proven) (result : Result code_verdict.Verdict E) (all : List Node) → nodes ≡ all → replay ≡ Through kept
        → IfOk result (λ verdict. (p : Proven) → IsProven kept p → verdict_by verdict ≡ compared nodes (behind (length program.query) nodes) p)
        → IfOk result (λ verdict. verdict_by verdict ≡ verdict_of program all)
    through {E = E} kept result all one found compares =
        let gave : (proven : Proven) × ((replay_of program nodes).answer ≡ Ok proven) × IsProven kept proven = subst (λ r. IsReplay r (replay_of program nodes).answer) found came in
        by result gave.0 gave.1 gave.2 compares
      where
        by : (r : Result code_verdict.Verdict E) (proven : Proven) → (replay_of program nodes).answer ≡ Ok proven → IsProven kept proven
            → IfOk r (λ verdict. (p : Proven) → IsProven kept p → verdict_by verdict ≡ compared nodes (behind (length program.query) nodes) p) → IfOk r (λ verdict. verdict_by verdict ≡ verdict_of program all)
        by (Ok verdict) proven same proves h = h proven proves ∙ (sym (ap (settled program nodes) same) ∙ (by-replay none ∙ ap (verdict_of program) one))
        by (Err error) proven same proves h = tt
