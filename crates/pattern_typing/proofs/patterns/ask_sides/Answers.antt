use Rattle.typing_state.proofs.Going.{goes_refl}
use Rattle.std.proofs.Common.{◌≡◌, ◌∙◌, sym, ap, subst, option_map}
use Rattle.syntax_tree.specs.View.{place_of, tok_of}
use Rattle.env_table.specs.declared.faults.FaultKind.TheVariants as fault
use Rattle.typing_state.specs.Goes.{Told, faults_of}
use Rattle.typing_state.specs.Messages.{one_side_text}
use Rattle.pattern_rows.specs.Sides.{name_apart_here}
use Rattle.pattern_rows.proofs.Beside.{sides_same, sides_told}
use Rattle.pattern_typing.specs.Matching.{binds_of}
use Rattle.pattern_typing.proofs.Carrying.{on_ok}
use Rattle.pattern_typing.proofs.patterns.ask_sides.Goals as goal

pub returns-in-Some-clause-carries : goal.returns-in-Some-clause-carries
returns-in-Some-clause-carries c =
    let xs = c.args.first.now.names.items in
    let ys = c.args.side.now.names.items in
    let found : option_map (λ t. (tok_of t.now).name) c.name_apart.result ≡ name_apart_here (binds_of c.args.first.now.names.items) (binds_of c.args.side.now.names.items) =
    c.name_apart.ensures ∙ (λ i. name_apart_here (binds_of (c.deref.ensures.value i)) (binds_of (c.deref-2.ensures.value i))) in
    let name = (tok_of c.in-Some.name.now).name in
    on_ok c.one_side.result _ _ (λ told. sides_told c.args.at.now c.one_side.new.self c.args.side.now.part.span (binds_of xs) (binds_of ys) name (sym found ∙ ap (option_map (λ t. (tok_of t.now).name)) c.in-Some.is)
    (subst (λ n. Told c.args.at.now.telling (faults_of c.args.at.now) (faults_of c.one_side.new.self) c.args.side.now.part.span fault.Sides (one_side_text n)) c.as_str.ensures told) c.one_side.ensures.rest) c.one_side.ensures.told

pub returns-in-None-clause-carries : goal.returns-in-None-clause-carries
returns-in-None-clause-carries c =
    let xs = c.args.first.now.names.items in
    let ys = c.args.side.now.names.items in
    let found : option_map (λ t. (tok_of t.now).name) c.name_apart.result ≡ name_apart_here (binds_of c.args.first.now.names.items) (binds_of c.args.side.now.names.items) =
    c.name_apart.ensures ∙ (λ i. name_apart_here (binds_of (c.deref.ensures.value i)) (binds_of (c.deref-2.ensures.value i))) in
    sides_same c.args.at.now (place_of c.args.side.now.part.span) (binds_of xs) (binds_of ys) (sym found ∙ ap (option_map (λ t. (tok_of t.now).name)) c.in-None.is)

pub returns-in-None-clause-goes : goal.returns-in-None-clause-goes
returns-in-None-clause-goes c = goes_refl c.args.at.now

pub returns-in-Some-clause-goes : goal.returns-in-Some-clause-goes
returns-in-Some-clause-goes c = c.one_side.ensures.goes
