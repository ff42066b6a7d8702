-- What labels that are read denote, by what their calls do.
use Rattle.std.proofs.Common.{◌∙◌, ℕ, List, [], ◌++◌}
use Rattle.row_parts.specs.Numbered.{operand_view}
use Rattle.type_model.specs.Types.{Typ}
use Rattle.signature_model.specs.Declarations.{Name}
use Rattle.typing_model.specs.Contexts.{tell}
use Rattle.type_nodes.specs.Nodes.{IsNode, Arrow}
use Rattle.type_nodes.specs.Changes.{Makes}
use Rattle.env_table.specs.declared.entries.Entry.{Entry}
use Rattle.typing_state.specs.declared.parts.Parts.{Parts}
use Rattle.typing_state.specs.Goes.{Goes, OnlyStore, OnlyIndex}
use Rattle.typing_state.proofs.Going.{goes_trans}
use Rattle.typing_steps.proofs.Seeing.{only_nodes}
use Rattle.typing_rows.specs.Settled.{behind}
use Rattle.typing_rows.proofs.DeclaredOrdered.{store_reports, index_reports}
use Rattle.typing_rows.proofs.Settling.{settled_trans, settled_told}
use Rattle.declared_rows.specs.Operands.{DenotesOperand}
use Rattle.declared_rows.proofs.Going.{denotes_on, to_after, to_before}
use Rattle.declared_rows.proofs.Made.{arrow_denotes}
use Rattle.typing_rows.proofs.Noted.{noted_on}
use Rattle.declared_rows.proofs.Ordered.{index_still}
use Rattle.decl_groups.specs.declared.groups.LabelPart.{LabelPart as CodePart}
use Rattle.decl_typing.specs.Labels.{label_as, HasBody}
use Rattle.decl_typing.specs.LabelParts.{DenotesField}

-- a label whose type is read, whose root is made, and which may be recorded
pub field_denotes : (a b d f : Parts) (env : List Entry) (names : List Name) (ps : List ℕ) (p : CodePart) (owner : Typ) (x e m : ℕ) → DenotesOperand a b env names ps (operand_view p.body) x → (IsNode b.store.nodes e → IsNode b.store.nodes x → Makes b.store d.store m (Arrow e x)) → OnlyStore b d → Goes b d →
    OnlyIndex d f → Goes d f → HasBody p → DenotesField a f env names ps (λ c. tell (label_as a.item p).node c ++ (label_as a.item p).body.read c) owner (label_as a.item p).body.node e m
field_denotes a b d f env names ps p owner x e m read makes rest goes last goes' has = λ aloud B around F arity U A inside noted denotes.
    let y = read has aloud (behind B [] []) around F arity U A inside noted in
    let here = y.to.on.assigns in
    let first = denotes_on inside.assigns y.to.on denotes in
    let made = makes (here.opens e first.known).inside (here.opens x y.to.denotes.known).inside in
    let arrow = to_after y.to.on (arrow_denotes {s = b.store.trail} {u = d.store.trail} here first y.to.denotes made (only_nodes b d rest)) in
    record {
      settled = record { judged = y.settled.judged; told = y.settled.told; fixes = y.settled.fixes; type = y.settled.type; reports = index_reports d f last ∙ store_reports b d rest ∙ y.settled.reports; settled = settled_trans (settled_told (label_as a.item p).node) y.settled.settled; gives = y.settled.gives };
      numbers = y.numbers;
      to = to_before arrow (index_still d f last arrow.on.assigns);
      noted = noted_on y.numbers y.noted (goes_trans b d f goes goes');
    }
