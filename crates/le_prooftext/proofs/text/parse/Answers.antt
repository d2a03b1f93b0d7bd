use Rattle.std.proofs.Common.{◌≡◌, ◌+◌, ◌-◌, ℕ, List, take, drop, length, Some, None, sym, ap, ◌∙◌, arith}
use Rattle.le_prooftext.specs.Reading.{nodes_from}
use Rattle.le_prooftext.proofs.TreeLemmas.{to_end}
use Rattle.le_prooftext.proofs.TextLemmas.{derivation_cut, derivation_uncounted, derivation_counted, reads_derivation}
use Rattle.le_prooftext.proofs.text.parse.Goals as goal
use Rattle.le_prooftext.proofs.text.parse.Goals.{In-Some-2, After-nodes_from}

-- the bytes after the first line
behind : (bytes : List ℕ) (k n : ℕ) → nodes_from n (take (length bytes - (k + 1)) (drop (k + 1) bytes)) ≡ nodes_from n (drop (k + 1) bytes)
behind bytes k n = ap (nodes_from n) (to_end bytes (k + 1) (length bytes - (k + 1)) (omega arith))

pub returns-in_default-clause-value : goal.returns-in_default-clause-value
returns-in_default-clause-value c = sym (derivation_cut c.args.bytes.now c.in_default.ensures.place)

pub returns-in_default-clause-exact : goal.returns-in_default-clause-exact
returns-in_default-clause-exact c = reads_derivation c.args.bytes.now None (sym (derivation_cut c.args.bytes.now c.in_default.ensures.place))

pub returns-in_default-count_of-clause-value : goal.returns-in_default-count_of-clause-value
returns-in_default-count_of-clause-value c = sym (derivation_uncounted c.args.bytes.now c.in-Some.place c.in-Some.ensures.place c.in_default-count_of.ensures.value)

pub returns-in_default-count_of-clause-exact : goal.returns-in_default-count_of-clause-exact
returns-in_default-count_of-clause-exact c =
    reads_derivation c.args.bytes.now None (sym (derivation_uncounted c.args.bytes.now c.in-Some.place c.in-Some.ensures.place c.in_default-count_of.ensures.value))

pub returns-in_default-2-clause-value : goal.returns-in_default-2-clause-value
returns-in_default-2-clause-value c =
    sym (derivation_counted c.args.bytes.now c.in-Some.place c.in-Some-count_of.count None c.in-Some.ensures.place c.in-Some.ensures.within c.in-Some-count_of.ensures.value
    (sym c.in_default-2.is ∙ (c.in_ok-nodes.ensures.value ∙ behind c.args.bytes.now c.in-Some.place c.in-Some-count_of.count)))

pub returns-in_default-2-clause-exact : goal.returns-in_default-2-clause-exact
returns-in_default-2-clause-exact c =
    reads_derivation c.args.bytes.now None
    (sym (derivation_counted c.args.bytes.now c.in-Some.place c.in-Some-count_of.count None c.in-Some.ensures.place c.in-Some.ensures.within c.in-Some-count_of.ensures.value
    (sym c.in_default-2.is ∙ (c.in_ok-nodes.ensures.value ∙ behind c.args.bytes.now c.in-Some.place c.in-Some-count_of.count))))

pub returns-clause-value : goal.returns-clause-value
returns-clause-value c =
    sym (derivation_counted c.args.bytes.now c.in-Some.place c.in-Some-count_of.count (Some (c.in-Some-2.nodes, c.in-Some-2.length)) c.in-Some.ensures.place c.in-Some.ensures.within c.in-Some-count_of.ensures.value
    (sym c.in-Some-2.is ∙ (c.in_ok-nodes.ensures.value ∙ behind c.args.bytes.now c.in-Some.place c.in-Some-count_of.count)))

pub returns-clause-exact : goal.returns-clause-exact
returns-clause-exact c =
    reads_derivation c.args.bytes.now (Some (record { nodes = c.in-Some-2.nodes }, c.in-Some.place + 1 + c.in-Some-2.length))
    (sym (derivation_counted c.args.bytes.now c.in-Some.place c.in-Some-count_of.count (Some (c.in-Some-2.nodes, c.in-Some-2.length)) c.in-Some.ensures.place c.in-Some.ensures.within c.in-Some-count_of.ensures.value
    (sym c.in-Some-2.is ∙ (c.in_ok-nodes.ensures.value ∙ behind c.args.bytes.now c.in-Some.place c.in-Some-count_of.count))))
