use Rattle.std.proofs.Common.{◌∙◌, sym, ap, option_map}
use Rattle.std.specs.Prelude.{Option, Some, None}
use Rattle.signature_model.specs.Declarations.{Name}
use Rattle.syntax_tree.specs.View.{tok_of}
use Rattle.pattern_rows.specs.Sides.{first_apart_here}
use Rattle.pattern_typing.specs.Matching.{binds_of}
use Rattle.pattern_typing.proofs.patterns.name_apart.Goals as goal

pub returns-in-Some : goal.returns-in-Some
returns-in-Some c =
    ap (λ (o : Option Name). let r : Option Name = elim o [ None ↦ first_apart_here (binds_of c.args.later.now) (binds_of c.args.first.now) | Some n ↦ Some n ] in r) (sym (ap (option_map (λ t. (tok_of t.now).name)) c.in-Some.is) ∙ c.first_apart.ensures)

pub returns-in-None : goal.returns-in-None
returns-in-None c =
    c.first_apart-in-None.ensures ∙
    ap (λ (o : Option Name). let r : Option Name = elim o [ None ↦ first_apart_here (binds_of c.args.later.now) (binds_of c.args.first.now) | Some n ↦ Some n ] in r) (sym (ap (option_map (λ t. (tok_of t.now).name)) c.in-None.is) ∙ c.first_apart.ensures)
