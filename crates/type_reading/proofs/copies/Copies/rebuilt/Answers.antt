use Rattle.typing_state.proofs.Going.{goes_refl}
use Rattle.std.proofs.Common.{◌≡◌, Some, sym, ◌∙◌, ap}
use Rattle.text_terms.specs.Bytes.{str_bytes}
use Rattle.type_nodes.specs.Nodes.{Arrow, Tuple, Con, IsNode, parts}
use Rattle.type_nodes.specs.Links.{reading}
use Rattle.type_nodes.specs.Views.{numbers}
use Rattle.level_unify.specs.Copies.{table_of}
use Rattle.type_reading.specs.Copying.{change_by, AreDeclared, AreCopied, IsChanged, seen_node}
use Rattle.type_reading.proofs.Answering.{at_change, rebuilt_as}
use Rattle.type_reading.proofs.copies.Copies.rebuilt.Goals as goal

pub returns-in-Arrow-clause-changed : goal.returns-in-Arrow-clause-changed
returns-in-Arrow-clause-changed c =
    let nodes = c.args.at.now.store.nodes in
    let new = c.arrow.new.at.store.nodes in
    let T = table_of c.args.self.now.table in
    let n = c.args.n.0 in
    let x = Arrow c.in-Arrow.from.0 c.in-Arrow.to.0 in
    let changes = c.args.how.changes.now in
    let known = AreDeclared nodes changes.real.items in
    rebuilt_as c.arrow.result known nodes new (change_by changes) T n x (λ lt. c.in_ok-from.ensures.seen lt ∙ ap (λ s. Some (seen_node s)) c.in-Arrow.is)
    (at_change c.arrow.result known (λ changes m. IsNode nodes n → reading nodes n ≡ Some x → AreCopied nodes (change_by changes) T (parts x) → IsChanged new (change_by changes) n m.0) changes c.arrow.ensures.changed)

pub returns-in-Tuple-clause-changed : goal.returns-in-Tuple-clause-changed
returns-in-Tuple-clause-changed c =
    let nodes = c.args.at.now.store.nodes in
    let new = c.tuple.new.at.store.nodes in
    let T = table_of c.args.self.now.table in
    let n = c.args.n.0 in
    let x = Tuple (numbers c.deref.result.now) in
    let changes = c.args.how.changes.now in
    let known = AreDeclared nodes changes.real.items in
    rebuilt_as c.tuple.result known nodes new (change_by changes) T n x
    (λ lt. c.in_ok-from.ensures.seen lt ∙ ap (λ s. Some (seen_node s)) c.in-Tuple.is ∙ ap (λ ns. Some (Tuple (numbers ns))) (sym c.deref.ensures.value))
    (at_change c.tuple.result known (λ changes m. IsNode nodes n → reading nodes n ≡ Some x → AreCopied nodes (change_by changes) T (parts x) → IsChanged new (change_by changes) n m.0) changes c.tuple.ensures.changed)

pub returns-in-Con-clause-changed : goal.returns-in-Con-clause-changed
returns-in-Con-clause-changed c =
    let x = Con c.in-Con.origin.path.items (str_bytes c.in-Con.origin.name) (numbers c.deref-in-Con.result.now) in
    rebuilt_as c.constructor.result (AreDeclared c.args.at.now.store.nodes c.args.how.changes.now.real.items) c.args.at.now.store.nodes c.constructor.new.at.store.nodes (change_by c.args.how.changes.now) (table_of c.args.self.now.table) c.args.n.0 x
    (λ lt. c.in_ok-from.ensures.seen lt ∙ ap (λ s. Some (seen_node s)) c.in-Con.is ∙ ap (λ ns. Some (Con c.in-Con.origin.path.items (str_bytes c.in-Con.origin.name) (numbers ns))) (sym c.deref-in-Con.ensures.value))
    c.constructor.ensures.changed

pub returns-in-Arrow-clause-goes : goal.returns-in-Arrow-clause-goes
returns-in-Arrow-clause-goes c = c.arrow.ensures.goes

pub returns-in-Con-clause-goes : goal.returns-in-Con-clause-goes
returns-in-Con-clause-goes c = c.constructor.ensures.goes

pub returns-in-Tuple-clause-goes : goal.returns-in-Tuple-clause-goes
returns-in-Tuple-clause-goes c = c.tuple.ensures.goes

pub returns-in_default-clause-goes : goal.returns-in_default-clause-goes
returns-in_default-clause-goes c = goes_refl c.args.at.now

pub returns-in_err-from-clause-goes : goal.returns-in_err-from-clause-goes
returns-in_err-from-clause-goes c = goes_refl c.args.at.now
