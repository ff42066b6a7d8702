-- Types that are generalised in turn: all of them are closed.
use Rattle.std.proofs.Common.{◌≡◌, ◌∙◌, ℕ, zero, suc, ◌<◌, List, [], ◌∷◌, length, Some, refl, sym, subst, arith}
use Rattle.std.specs.Prelude.{slice_get}
use Rattle.typing_laws.proofs.Bools.{no_yes}
use Rattle.type_nodes.specs.Nodes.{Node}
use Rattle.type_nodes.specs.Readings.{Types}
use Rattle.typing_state.specs.declared.parts.Parts.{Parts}
use Rattle.typing_state.specs.Goes.{OnlyStore}
use Rattle.typing_conditions.specs.Locals.{IsOwn, ClosesAll}
use Rattle.typing_conditions.proofs.Closing.{closed_own}
use Rattle.typing_conditions.proofs.Bindings.{generalised_closes, closes_then}
use Rattle.binding_rows.specs.Closing.{Limit, LimitsAll, GeneralisesAll}

closes_none : (nodes : List Node) (J : Types) (level : ℕ) → ClosesAll nodes nodes J [] level
closes_none nodes J level = record { len = refl; binds = λ v l o e free above h. absurd (no_yes h); stays = λ n h. refl }

-- what is generalised in turn is closed
pub generalised_all : (a b : Parts) (J : Types) (ns : List ℕ) → IsOwn a.store.nodes J → ((k r : ℕ) → slice_get ns k ≡ Some r → r < length a.store.nodes) → GeneralisesAll a b ns → ClosesAll a.store.nodes b.store.nodes J ns a.level
generalised_all a b J [] own inside same = subst (λ x. ClosesAll a.store.nodes x.store.nodes J [] a.level) (sym same) (closes_none a.store.nodes J a.level)
generalised_all a b J (n ∷ ns) own inside (c, one, rest) =
    let first : ClosesAll a.store.nodes c.store.nodes J (n ∷ []) a.level = generalised_closes a.store.nodes c.store.nodes J n a.level own (inside zero n refl) (one.bound (inside zero n refl)) in
    let others : ClosesAll c.store.nodes b.store.nodes J ns c.level =
    generalised_all c b J ns (closed_own a.store.nodes c.store.nodes J (n ∷ []) a.level own first) (λ k r e. let p = inside (suc k) r e in let q = first.len in omega arith) rest in
    closes_then a.store.nodes c.store.nodes b.store.nodes J (n ∷ []) ns a.level first (subst (ClosesAll c.store.nodes b.store.nodes J ns) one.rest.level others)

-- where all is as before only the store changes
only_none : (a b : Parts) → b ≡ a → OnlyStore a b
only_none a b e = subst (OnlyStore a) (sym e) (record { index = refl; faults = refl; written = refl; item = refl; level = refl; telling = refl; constants = refl })

-- one call after another changes the store alone
only_then : {a b c : Parts} → OnlyStore a b → OnlyStore b c → OnlyStore a c
only_then p q = record {
  index = q.index ∙ p.index;
  faults = q.faults ∙ p.faults;
  written = q.written ∙ p.written;
  item = q.item ∙ p.item;
  level = q.level ∙ p.level;
  telling = q.telling ∙ p.telling;
  constants = q.constants ∙ p.constants;
}

-- generalising changes the store alone
pub generalised_rest : (a b : Parts) (ns : List ℕ) → GeneralisesAll a b ns → OnlyStore a b
generalised_rest a b [] same = only_none a b same
generalised_rest a b (n ∷ ns) (c, one, rest) = only_then one.rest (generalised_rest c b ns rest)

-- and so do limits
pub limited_rest : (a b : Parts) (level : ℕ) (ls : List Limit) → LimitsAll a b level ls → OnlyStore a b
limited_rest a b level [] same = only_none a b same
limited_rest a b level (l ∷ ls) (c, one, rest) = only_then one.rest (limited_rest c b level ls rest)
