-- Parts that are typed in order, and the row of a tuple.
use Rattle.std.proofs.Common.{◌≡◌, ◌∙◌, ◌++◌, ℕ, List, [], ◌∷◌, map, refl, sym, ap, append_assoc, append-nil}
use Rattle.std.specs.Prelude.{All}
use Rattle.tree_model.specs.Trees.{Place}
use Rattle.type_model.specs.Types.{Typ, types_of}
use Rattle.type_model.specs.Types.{Typ as type}
use Rattle.typing_model.specs.Contexts.{Choice}
use Rattle.typing_model.specs.Parts.{Expression}
use Rattle.typing_model.specs.Expressions.{typed_all, tuple_expression}
use Rattle.typing_model.specs.Meanings.{recorded_expression}
use Rattle.type_nodes.specs.Nodes.{Tuple, IsNode}
use Rattle.type_nodes.specs.Changes.{Makes}
use Rattle.typing_state.specs.declared.parts.Parts.{Parts}
use Rattle.typing_state.specs.Goes.{OnlyStore}
use Rattle.env_table.specs.declared.entries.Entry.{Entry}
use Rattle.typing_conditions.specs.Sights.{Sight, Letters, number_in}
use Rattle.typing_conditions.specs.Frames.{Frame, Reaches}
use Rattle.typing_conditions.specs.Meanings.{none_mean, types_by}
use Rattle.typing_conditions.specs.Steps.{Records}
use Rattle.typing_conditions.specs.Carrying.{Scope, SeesScope, Carried, CarriedTo}
use Rattle.typing_conditions.proofs.Carried.{carried_refl, carried_trans, carried_as}
use Rattle.typing_conditions.proofs.Meaning.{all_mean_on, all_mean_more}
use Rattle.typing_conditions.proofs.Recording.{ends_same, row_recorded}
use Rattle.typing_conditions.proofs.Hiding.{owns_none}
use Rattle.typing_conditions.proofs.Answering.{then_made, to_as}
use Rattle.typing_steps.specs.States.{sight}
use Rattle.typing_steps.specs.Rows.{TypesParts}
use Rattle.typing_steps.proofs.Making.{tuple_over}

-- no part yet
pub parts_none : {F : Frame} {scope : Scope} {a : Sight} {G : Letters} (es : List Expression) → TypesParts F scope a G a es es []
parts_none es = record { done = λ c. []; types = []; carried = carried_refl; means = none_mean; asks = λ c. refl; gives = λ ch. refl }

types_more : (ch : Choice) (types : List (Choice → Typ)) (t : Choice → Typ) → types_by ch types ++ t ch ∷ [] ≡ types_by ch (types ++ t ∷ [])
types_more ch [] t = refl
types_more ch (u ∷ types) t = ap (λ ts. u ch ∷ ts) (types_more ch types t)

-- one part more
pub parts_more : {F : Frame} {scope : Scope} {a b d : Sight} {G : Letters} {all left : List Expression} {ms : List ℕ} {m : ℕ} (e : Expression) → TypesParts F scope a G b all (e ∷ left) ms →
    CarriedTo F scope (λ c. e.typed c) b G d G (λ ch. ch.type_at e.node) m → TypesParts F scope a G d all left (ms ++ m ∷ [])
parts_more {left = left} e p q = record {
  done = λ c. p.done c ++ e.typed c;
  types = p.types ++ (λ (ch : Choice). ch.type_at e.node) ∷ [];
  carried = carried_trans p.carried q.carried;
  means = all_mean_more (all_mean_on q.carried.stays p.means) q.means;
  asks = λ c. p.asks c ∙ sym (append_assoc (p.done c) (e.typed c) (typed_all c left));
  gives = λ ch.
      p.gives ch ∙ sym (append_assoc (types_by ch p.types) (ch.type_at e.node ∷ []) (map (λ (f : Expression). ch.type_at f.node) left)) ∙
      ap (λ ts. ts ++ map (λ (f : Expression). ch.type_at f.node) left) (types_more ch p.types (λ (ch : Choice). ch.type_at e.node));
}

-- all parts, in order
pub parts_all : {F : Frame} {scope : Scope} {a b : Sight} {G : Letters} {all : List Expression} {ms : List ℕ} (p : TypesParts F scope a G b all [] ms) → Carried F scope (λ c. typed_all c all) a G b G
parts_all p = carried_as (λ c. sym (append-nil (p.done c)) ∙ sym (p.asks c)) p.carried

-- A tuple: its parts in order, the tuple of their types, and the record of its node.
pub tuple_recorded : (b d : Parts) {F : Frame} {scope : Scope} {a e : Sight} {G : Letters} {ms : List ℕ} {n number m : ℕ} {env : List Entry} (at : Place) (es : List Expression) → number_in d.item number ≡ n → Reaches F (sight b) → TypesParts F scope a G (sight b) es [] ms →
    (All (IsNode b.store.nodes) ms → Makes b.store d.store m (Tuple ms)) → OnlyStore b d → Records (sight d) e number m env → SeesScope F scope a G env →
    CarriedTo F scope (λ c. (recorded_expression n (tuple_expression n at es)).typed c) a G e G (λ ch. ch.type_at n) m
tuple_recorded b d {F} {scope} {a} {e} {G} {ms} {n} {number} {m} at es place reached p made rest r sees =
    let whole = then_made (parts_all p) (tuple_over b d {scope = scope} reached p.means made rest) in
    let typed : CarriedTo F scope (λ c. typed_all c es) a G (sight d) G (λ ch. type.Tuple (types_of (map (λ (f : Expression). ch.type_at f.node) es))) m =
    to_as (λ c. refl) (λ ch. ap (λ ts. type.Tuple (types_of ts)) (sym (append-nil (types_by ch p.types)) ∙ sym (p.gives ch))) whole in
    row_recorded [] n place typed (ends_same n (λ ch. type.Tuple (types_of (map (λ (f : Expression). ch.type_at f.node) es)))) r sees (λ known. owns_none)
