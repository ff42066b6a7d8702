-- New variables of any scope, and types that fit whatever the scopes, after a new node.
use Rattle.std.proofs.Common.{◌≡◌, ◌∙◌, ℕ, zero, ◌<◌, List, [], ◌∷◌, length, get_or, refl, sym, ap, subst, arith, inl, inr}
use Rattle.std.specs.Prelude.{All}
use Rattle.std.proofs.lemmas.Option.{slice_get_within}
use Rattle.type_model.specs.Types.{Typ, types_of}
use Rattle.type_model.specs.Types.{Typ as type}
use Rattle.type_nodes.specs.Nodes.{Node, Var, Rigid, Link, Arrow, Tuple, Con, parts, IsSound}
use Rattle.type_nodes.specs.Readings.{Types}
use Rattle.type_nodes.specs.States.{State, Change, state}
use Rattle.type_nodes.specs.Changes.{Makes}
use Rattle.type_nodes.proofs.Lists.{get-append_cases}
use Rattle.type_nodes.proofs.Identity.{map_agree}
use Rattle.level_unify.specs.Solutions.{Loose, FitsLoosely}
use Rattle.level_unify.proofs.Walking.{parts_inside}
use Rattle.typing_conditions.specs.Locals.{IsOwn}
use Rattle.typing_conditions.specs.Rows.{Row}
use Rattle.typing_conditions.specs.Sights.{Sight}
use Rattle.typing_conditions.specs.Frames.{Frame, Reaches, IsOpen, AreOpen}
use Rattle.typing_conditions.specs.Steps.{OnlyNodes}
use Rattle.typing_conditions.proofs.Own.{own_of}
use Rattle.typing_conditions.proofs.Rows.{row_var}
use Rattle.typing_conditions.proofs.Making.{with_type, at_older}
use Rattle.typing_conditions.proofs.Framing.{row_of, reaches_step, open_from, sound_made}

-- a new variable of the frame's level is open, whatever its scope
pub open_scoped : {F : Frame} {a b : Sight} {s t : List Change} {n : ℕ} (o : ℕ) → Reaches F a → Makes (state a.nodes s) (state b.nodes t) n (Var F.level o) → OnlyNodes a b → IsOpen F b n
open_scoped {F} {a} {b} {s} {t} {n} o r made rest = open_from reached (λ K own. let before = own_of a.nodes r.sound in (row before.0 K before.1 own).open_nodes zero n refl)
  where
    none_open : AreOpen F a []
    none_open k m e = absurd (cc)

    row : (J K : Types) → IsOwn a.nodes J → IsOwn b.nodes K → Row F.start b.nodes F.types K F.roots r.held F.level (n ∷ [])
    row J K own own' = row_var (row_of r J own [] none_open) K own' n (Var F.level o) made o refl (λ e. let lt = r.frame.free in absurd (omega arith))

    reached : Reaches F b
    reached = reaches_step r (sound_made a b r.sound made (λ k d lt. absurd (omega arith))) rest.level (λ x m e. rest.written x ∙ e) (λ J K own own'. (row J K own own').local)

-- what fits a node still does, where its type and those of its parts are the same
same_loosely : (V W : Types) (n : ℕ) (c : Node) → FitsLoosely V n c → W n ≡ V n → All (λ m. W m ≡ V m) (parts c) → FitsLoosely W n c
same_loosely V W n (Var l o) p e h = tt
same_loosely V W n Rigid p e h = e ∙ p
same_loosely V W n (Link m) p e h = let f : W m ≡ V m = h zero zero (omega arith) in e ∙ p ∙ sym f
same_loosely V W n (Arrow a b) p e h = let f : W a ≡ V a = h zero zero (omega arith) in let g : W b ≡ V b = h 1 zero (omega arith) in e ∙ p ∙ sym (λ i. type.Arrow (f i) (g i))
same_loosely V W n (Tuple ms) p e h = e ∙ p ∙ ap (λ ts. type.Tuple (types_of ts)) (sym (map_agree W V ms h))
same_loosely V W n (Con p' name ms) p e h = e ∙ p ∙ ap (λ ts. type.Con p' (types_of ts)) (sym (map_agree W V ms h))

-- types that fit go on to a node that is made
pub loose_made : (old new : State) (n : ℕ) (c : Node) → IsSound old.nodes → Makes old new n c → (V : Types) (t : Typ) → Loose old.nodes V → FitsLoosely (with_type V n t) n c → Loose new.nodes (with_type V n t)
loose_made old new n c sound made V t fits own = subst (λ nodes. Loose nodes (with_type V n t)) (sym made.added.nodes) (record {
  each = λ m x e. elim (get-append_cases old.nodes c m x e) [
    | inl f ↦ same_loosely V (with_type V n t) m x (fits.each m x f) (older m (slice_get_within old.nodes m x f)) (λ k d lt. older (get_or (parts x) k d) (parts_inside old.nodes sound m x f k d lt))
    | inr (p, q) ↦ subst (λ k. FitsLoosely (with_type V n t) k x) (made.added.number ∙ sym p) (subst (FitsLoosely (with_type V n t) n) (sym q) own)
  ];
})
  where
    older : (m : ℕ) → m < length old.nodes → with_type V n t m ≡ V m
    older m lt = at_older V n t m (let e = made.added.number in omega arith)
