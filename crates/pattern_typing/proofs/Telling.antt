-- What is told of a name behind calls that tell nothing.
use Rattle.std.proofs.Common.{◌∙◌, List, subst}
use Rattle.std.specs.Prelude.{Bool, true, false, Option, Some, None}
use Rattle.token_model.specs.Kinds.{Tok}
use Rattle.typing_state.specs.declared.parts.Parts.{Parts}
use Rattle.typing_state.specs.Goes.{Goes, faults_of, Told, Silent}
use Rattle.typing_state.specs.Messages.{twice_text}
use Rattle.env_table.specs.declared.faults.FaultKind.TheVariants as fault
use Rattle.use_typing.specs.Labels.{TellsTwice, is_named_in}
use Rattle.pattern_typing.specs.Names.{TellsNameIf}

-- a name that is told to be defined twice
twice_behind : (again : Bool) (t : Tok) (a b c : Parts) → Goes a b → Silent a b → TellsTwice again t b c → TellsTwice again t a c
twice_behind false t a b c g s h = h ∙ s
twice_behind true t a b c g s h =
    (h.0, h.1, subst (λ l. Told l (faults_of a) (faults_of c) h.0 fault.Unique (twice_text t.name)) g.telling (subst (λ fs. Told b.telling fs (faults_of c) h.0 fault.Unique (twice_text t.name)) s h.2))

-- the name of a row, which may be missing
pub name_behind : (seen : List Tok) (o : Option Tok) (a b c : Parts) → Goes a b → Silent a b → TellsNameIf seen o b c → TellsNameIf seen o a c
name_behind seen None a b c g s h = h ∙ s
name_behind seen (Some t) a b c g s h = twice_behind (is_named_in t.name seen) t a b c g s h
