-- The message of a report that two types differ is that of its demand, by the definitions.
use Rattle.std.proofs.Common.{◌≡◌, Bool, true, List, sym, subst}
use Rattle.tree_model.specs.Trees.{Tree}
use Rattle.type_model.specs.Types.{Path, Typ}
use Rattle.signature_model.specs.Changes.{among}
use Rattle.signature_model.specs.Entries.{Environment}
use Rattle.type_print_model.specs.Paths.{NamePath, Reaches, naming}
use Rattle.typing_model.specs.Demands.{Site}
use Rattle.typing_model.specs.Plain.{has_values_alone}
use Rattle.typing_model.specs.Typings.{kept_before}
use Rattle.fault_model.specs.Values.{are_bare}
use Rattle.fault_model.specs.Messages.{HasPaths, IsMessageAt}
use Rattle.typed_model.specs.Over.{IsOver}
use Rattle.typing_conditions.specs.Sights.{Report}
use Rattle.over_laws.proofs.Texts.{values_before_over}
use Rattle.settled_types.specs.Made.{Constructors, is_made_of, names_made_of}
use Rattle.settled_types.proofs.Pairs.{pair_types_are_made}
use Rattle.settled_types.proofs.Settled.{mentioned_made}
use Rattle.print_laws.specs.Rigid.{HasNoRigid}
use Rattle.print_laws.specs.Ascii.{names_ascii}
use Rattle.print_laws.proofs.Ascii.{over_ascii}
use Rattle.print_laws.proofs.Over.{reaches_under}
use Rattle.print_laws.proofs.Messages.{message_prints}
use Rattle.text_laws.specs.Stopped.{IsStopped}

-- In a text of `let`, `;;` and exceptions without an argument, from names in scope that are made of some constructors, each of which a path of them reaches, with names of one byte a character, and in no type made of which a rigid variable stands: the message of each such report prints the two types of its demand.
pub values_message : {env : Environment} {text : List Tree} {kept : Site → Bool} {s : Site} {r : Report} (w : Constructors) → has_values_alone text ≡ true → are_bare text ≡ true → names_made_of w.all env ≡ true → names_ascii env ≡ true → ((o : Path) → among o w.all ≡ true → (p : NamePath) × Reaches naming env o p) →
    ((t : Typ) → is_made_of w.all t ≡ true → HasNoRigid t) → (x : IsStopped env text kept s r) → IsMessageAt env text kept s r.at r.message
values_message {env} {text} {kept} {s} {r} w values bare names ascii reached clean x = record {
  found = x.types x.found.0;
  wanted = x.types x.wanted.0;
  pair = x.pair;
  names = x.treated_in;
  in_scope = x.in_scope;
  prints = message_prints x.sound x.types x.own x.shows x.unbound x.stands x.alike (over_ascii over ascii) (clean (x.types x.found.0) made.0) (clean (x.types x.wanted.0) made.1) (there (x.types x.found.0) made.0) (there (x.types x.wanted.0) made.1);
}
  where
    made : (is_made_of w.all (x.types x.found.0) ≡ true) × (is_made_of w.all (x.types x.wanted.0) ≡ true)
    made = pair_types_are_made w env text kept s r.at (x.types x.found.0) (x.types x.wanted.0) values bare names x.pair (x.known x.found.0) (x.known x.wanted.0)

    over : IsOver env x.treated_in
    over = values_before_over env text (kept_before env text kept s) x.pair.choice values s s.node x.treated_in x.in_scope.0 x.in_scope.1

    there : (t : Typ) → is_made_of w.all t ≡ true → HasPaths x.treated_in t
    there t is o m = let (p, r) = reached o (mentioned_made w.all o t is m) in (p, subst (λ z. Reaches naming z o p) (sym over.is) (reaches_under over.front env over.are_no_types o p r))
