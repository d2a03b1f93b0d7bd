use Rattle.std.proofs.Common.{slice_range, sym, ◌∙◌}
use Rattle.le_base.specs.declared.code.Code.TheVariants.{NoReading}
use Rattle.le_base.specs.Stop.{refusal_at}
use Rattle.le_terms.specs.declared.program.Atom.{Atom}
use Rattle.le_match.specs.declared.readings.BestReading.TheVariants as best
use Rattle.le_match.specs.Shares.{shares_of}
use Rattle.le_match.specs.Terms.{Found, first_of, atom_found, terms_of, ambiguous, atom_of}
use Rattle.le_match.proofs.TermLemmas.{gives_refused, gives_as}
use Rattle.le_match.proofs.ReadLemmas.{atom_is}
use Rattle.le_match.proofs.sentences.read.Goals as goal

pub returns-in-None-clause-exact : goal.returns-in-None-clause-exact
returns-in-None-clause-exact c =
    let us = c.args.templates.now in
    let l = c.args.layout.now in
    let ts = slice_range l.tokens c.args.tokens.from c.args.tokens.to in
    let names = c.args.names.now in
    let scope = c.args.scope.now in
    let query = c.args.query in
    let first = first_of ts in
    let view : Atom → Found Atom = λ a. record { value = a; names = names; scope = scope } in
    gives_refused view c.refused.result (refusal_at NoReading first.line first.column) (atom_of us names scope query l ts) c.refused.ensures
    (atom_is us names scope query l ts best.None (sym c.in_ok-best.ensures.exact ∙ c.in-None.is))

pub returns-in-One-clause-exact : goal.returns-in-One-clause-exact
returns-in-One-clause-exact c =
    let us = c.args.templates.now in
    let l = c.args.layout.now in
    let ts = slice_range l.tokens c.args.tokens.from c.args.tokens.to in
    let names = c.args.names.now in
    let scope = c.args.scope.now in
    let query = c.args.query in
    let r = c.in-One.reading in
    let view : Atom → Found Atom = λ a. record { value = a; names = c.single.new.names; scope = c.single.new.scope } in
    gives_as view c.single.result (atom_of us names scope query l ts) (atom_found r.pred (terms_of us names scope query l (shares_of us ts r)))
    (atom_is us names scope query l ts (best.One r) (sym c.in_ok-best.ensures.exact ∙ c.in-One.is)) c.single.ensures.exact

pub returns-in_ok-ambiguous-in-Two-clause-exact : goal.returns-in_ok-ambiguous-in-Two-clause-exact
returns-in_ok-ambiguous-in-Two-clause-exact c =
    let us = c.args.templates.now in
    let l = c.args.layout.now in
    let ts = slice_range l.tokens c.args.tokens.from c.args.tokens.to in
    let names = c.args.names.now in
    let scope = c.args.scope.now in
    let query = c.args.query in
    let r = c.in-Two.first in
    let s = c.in-Two.second in
    let view : Atom → Found Atom = λ a. record { value = a; names = names; scope = scope } in
    gives_refused view c.in_ok-ambiguous-in-Two.field-0 (ambiguous us l ts r s) (atom_of us names scope query l ts) c.in_ok-ambiguous-in-Two.ensures
    (atom_is us names scope query l ts (best.Two r s) (sym c.in_ok-best.ensures.exact ∙ c.in-Two.is))
