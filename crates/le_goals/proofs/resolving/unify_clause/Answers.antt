use Rattle.std.proofs.Common.{rules, ◌≡◌, ◌==◌, ◌+◌, ℕ, List, Option, None, true, false, subst, sym, length}
use Rattle.std.proofs.lemmas.Result.{IfOk-weaker}
use Rattle.le_terms.specs.Tree.{Tree}
use Rattle.le_terms.specs.Program.{HasVariablesBelow}
use Rattle.le_terms.specs.declared.program.Clause.{Clause}
use Rattle.le_goals.specs.Unifying.{HasVariables, UnifiesTerms, UnifiesClause}
use Rattle.le_goals.proofs.Spots.{Comes, comes, get-from, clause-is, same-clause, other-predicate, same-predicate}
use Rattle.le_goals.proofs.resolving.unify_clause.Goals as goal

pub returns-then-used-atom-clause-unified : goal.returns-then-used-atom-clause-unified
returns-then-used-atom-clause-unified c = λ one found.
    let here = c.in-Some.ensures c.args.program.now (length c.args.store.now.now.terms) c.requires.frames in
    let atom : Comes c.args.program.now c.args.store.now c.args.frames.now c.args.goal c.args.place c.in-Some.spot.part.base c.atom_of-atom.result.now =
    comes c.args.program.now c.requires.program c.args.store.now c.args.frames.now c.args.goal c.args.place c.in-Some.spot here c.index-literals_in-spot.result _ c.atom_of-atom.result.now
    (get-from c.literals_in.result.now _ (c.in-Some.spot.part.from + c.in-Some.spot.left) c.index-literals_in-spot.result _ c.index-literals_in-spot.is c.literals_in.ensures) c.atom_of-atom.ensures in
    let clauses = get-from c.as_slice.result.now c.args.program.now.clauses c.args.clause c.index-as_slice-clause.result _ c.index-as_slice-clause.is c.as_slice.ensures in
    let same : one ≡ c.index-as_slice-clause.result = same-clause c.args.program.now.clauses c.args.clause c.index-as_slice-clause.result _ one c.requires.clause clauses found in
    let differs : (c.index-as_slice-clause.result.head.pred == c.atom_of-atom.result.now.pred) ≡ false = search rules in
    subst (λ (k : Clause). UnifiesClause c.args.program.now c.args.store.now c.args.store.now c.args.frames.now c.args.goal c.args.place k None) (sym same)
    (other-predicate c.args.program.now c.args.store.now c.args.store.now c.args.frames.now c.args.goal c.args.place c.index-as_slice-clause.result c.atom_of-atom.result.now c.in-Some.spot.part.base atom.seen differs)

pub unify_fresh-requires-clause-lefts : goal.unify_fresh-requires-clause-lefts
unify_fresh-requires-clause-lefts c =
    let clauses = get-from c.as_slice.result.now c.args.program.now.clauses c.args.clause c.index-as_slice-clause.result _ c.index-as_slice-clause.is c.as_slice.ensures in
    subst (HasVariablesBelow c.index-as_slice-clause.result.vars) (sym c.as_slice-2.ensures) (clause-is c.args.program.now c.requires.program c.args.clause c.index-as_slice-clause.result _ c.requires.clause clauses).0

pub unify_fresh-requires-clause-rights : goal.unify_fresh-requires-clause-rights
unify_fresh-requires-clause-rights c =
    let here = c.in-Some.ensures c.args.program.now (length c.args.store.now.now.terms) c.requires.frames in
    let atom : Comes c.args.program.now c.args.store.now c.args.frames.now c.args.goal c.args.place c.in-Some.spot.part.base c.atom_of-atom.result.now =
    comes c.args.program.now c.requires.program c.args.store.now c.args.frames.now c.args.goal c.args.place c.in-Some.spot here c.index-literals_in-spot.result _ c.atom_of-atom.result.now
    (get-from c.literals_in.result.now _ (c.in-Some.spot.part.from + c.in-Some.spot.left) c.index-literals_in-spot.result _ c.index-literals_in-spot.is c.literals_in.ensures) c.atom_of-atom.ensures in
    subst (HasVariables c.args.store.now c.in-Some.spot.part.base) (sym c.as_slice-3.ensures) atom.there

pub returns-clause-unified : goal.returns-clause-unified
returns-clause-unified c =
    let here = c.in-Some.ensures c.args.program.now (length c.args.store.now.now.terms) c.requires.frames in
    let atom : Comes c.args.program.now c.args.store.now c.args.frames.now c.args.goal c.args.place c.in-Some.spot.part.base c.atom_of-atom.result.now =
    comes c.args.program.now c.requires.program c.args.store.now c.args.frames.now c.args.goal c.args.place c.in-Some.spot here c.index-literals_in-spot.result _ c.atom_of-atom.result.now
    (get-from c.literals_in.result.now _ (c.in-Some.spot.part.from + c.in-Some.spot.left) c.index-literals_in-spot.result _ c.index-literals_in-spot.is c.literals_in.ensures) c.atom_of-atom.ensures in
    let clauses = get-from c.as_slice.result.now c.args.program.now.clauses c.args.clause c.index-as_slice-clause.result _ c.index-as_slice-clause.is c.as_slice.ensures in
    let equal : (c.index-as_slice-clause.result.head.pred == c.atom_of-atom.result.now.pred) ≡ true = search rules in
    IfOk-weaker c.unify_fresh.result _ _
    (λ (answer : Option ℕ) made one found.
    let same : one ≡ c.index-as_slice-clause.result = same-clause c.args.program.now.clauses c.args.clause c.index-as_slice-clause.result _ one c.requires.clause clauses found in
    let lefts : UnifiesTerms c.args.store.now c.unify_fresh.new.store c.index-as_slice-clause.result.vars c.index-as_slice-clause.result.head.args c.in-Some.spot.part.base c.atom_of-atom.result.now.args answer =
    subst (λ (ts : List Tree). UnifiesTerms c.args.store.now c.unify_fresh.new.store c.index-as_slice-clause.result.vars ts c.in-Some.spot.part.base c.atom_of-atom.result.now.args answer) c.as_slice-2.ensures
    (subst (λ (ts : List Tree). UnifiesTerms c.args.store.now c.unify_fresh.new.store c.index-as_slice-clause.result.vars c.as_slice-2.result.now c.in-Some.spot.part.base ts answer) c.as_slice-3.ensures made) in
    subst (λ (k : Clause). UnifiesClause c.args.program.now c.args.store.now c.unify_fresh.new.store c.args.frames.now c.args.goal c.args.place k answer) (sym same)
    (same-predicate c.args.program.now c.args.store.now c.unify_fresh.new.store c.args.frames.now c.args.goal c.args.place c.index-as_slice-clause.result c.atom_of-atom.result.now c.in-Some.spot.part.base atom.seen equal answer lefts))
    c.unify_fresh.ensures.unified
