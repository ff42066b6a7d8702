-- The message of a demand of a text of `let`, exceptions and `;;` is one.
use Rattle.std.proofs.Common.{◌≡◌, ℕ, Bool, true, List}
use Rattle.tree_model.specs.Trees.{Place, Tree}
use Rattle.signature_model.specs.Entries.{Environment}
use Rattle.typing_model.specs.Demands.{Site}
use Rattle.typing_model.specs.Plain.{has_values_alone}
use Rattle.typing_model.specs.Typings.{kept_before}
use Rattle.fault_model.specs.Messages.{IsMessageAt}
use Rattle.over_laws.proofs.Texts.{values_before_over}
use Rattle.print_laws.proofs.Messages.{one_message}

-- Two messages of one demand are the same, whatever most general types they show.
pub values_message_one : {env : Environment} {text : List Tree} {kept : Site → Bool} {s : Site} {at place : Place} {message other : List ℕ} → has_values_alone text ≡ true → IsMessageAt env text kept s at message → IsMessageAt env text kept s place other → message ≡ other
values_message_one {env} {text} {kept} {s} {message = message} {other = other} values a b =
    one_message a.pair b.pair (values_before_over env text (kept_before env text kept s) a.pair.choice values s s.node a.names a.in_scope.0 a.in_scope.1) (values_before_over env text (kept_before env text kept s) b.pair.choice values s s.node b.names b.in_scope.0 b.in_scope.1) message other a.prints b.prints
