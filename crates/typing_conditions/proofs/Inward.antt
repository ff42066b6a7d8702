-- A frame one level further in: what it reaches at its start, and what is open in it.
use Rattle.std.proofs.Common.{◌≡◌, ◌∙◌, ℕ, zero, suc, ◌<◌, ◌≤◌, min, true, List, [], ◌∷◌, length, Some, refl, sym, ap, subst, arith}
use Rattle.std.specs.Prelude.{slice_get}
use Rattle.type_model.specs.Types.{Typ}
use Rattle.typing_model.specs.Contexts.{Choice}
use Rattle.typing_model.specs.BuiltIns.{int_type, char_type, string_type, float_type, unit_type, bool_type, exn_type}
use Rattle.signature_model.specs.Declarations.{Name}
use Rattle.type_nodes.specs.Readings.{Types, IsReading}
use Rattle.level_unify.specs.Solutions.{Loose}
use Rattle.level_unify.specs.Instances.{is_bound}
use Rattle.env_table.specs.declared.entries.Entry.{Entry}
use Rattle.typing_conditions.specs.Locals.{IsOwn}
use Rattle.typing_conditions.specs.Assumptions.{SchemeFits, SchemeReads}
use Rattle.typing_conditions.specs.Standing.{IsIn, Covers, Stands}
use Rattle.typing_conditions.proofs.Regions.{in_any}
use Rattle.typing_conditions.proofs.Instances.{root_within}
use Rattle.typing_conditions.specs.Sights.{Sight, Fixed, Letters, Agrees}
use Rattle.typing_conditions.specs.Frames.{Frame, Reaches, IsOpenAt, IsRoot, inner_frame, GoesIn}
use Rattle.typing_conditions.specs.Meanings.{Means, KnowsFixed, KnowsWritten}
use Rattle.typing_conditions.specs.Steps.{OnlyLevel}
use Rattle.typing_conditions.specs.Carrying.{Scope, HoldsWritten, HoldsUnbound}
use Rattle.typing_conditions.specs.Surroundings.{Declared, KnowsNames, Surrounds}
use Rattle.typing_conditions.proofs.Framing.{open_lower, reached_start}

-- A choice agrees with a state where the same is recorded and written.
pub agrees_as : {owner : ℕ} {G : Letters} {V : Types} {ch : Choice} (a b : Sight) → ((i p : ℕ) → b.types i p ≡ a.types i p) → ((x : Name) → b.written x ≡ a.written x) → Agrees owner a G V ch → Agrees owner b G V ch
agrees_as a b types written g = record {
  recorded = λ i p m e. g.recorded i p m (sym (types i p) ∙ e);
  known = λ i p m e. g.known i p m (sym (types i p) ∙ e);
  written = λ x m e. g.written x m (sym (written x) ∙ e);
  given = g.given;
}

-- the nodes of the built-in types
abbrev pub fixed_nodes : Fixed → List ℕ
fixed_nodes f = f.int ∷ f.char ∷ f.string ∷ f.float ∷ f.unit ∷ f.bool ∷ f.exn ∷ []

module _ {F : Frame} {a b : Sight} {J : Types} {roots : List ℕ} {held : ℕ → List ℕ} (g : GoesIn F a J roots held) (only : OnlyLevel a b) (raised : b.level ≡ suc a.level) where
  same_own : (M : Types) → IsOwn b.nodes M → IsOwn a.nodes M
  same_own M own = subst (λ ns. IsOwn ns M) only.nodes own

  -- nothing was done yet
  pub reached_inward : Reaches (inner_frame F a J roots held) b
  reached_inward = reached_start b (record {
    own = g.own;
    context = record {
      inside = λ k c e. (g.are_roots k c e).inside;
      low = λ v l o h e free. let i = in_any v J roots h in let le = (g.are_roots i.place i.node i.at).low J g.own v l o i.occurs e free in omega arith;
    };
    free = g.free;
  }) only.nodes (raised ∙ ap suc g.reached.level) g.reached.sound

  in_store : (n : ℕ) → n < length a.nodes → n < length b.nodes
  in_store n lt = let q : length b.nodes ≡ length a.nodes = ap length only.nodes in omega arith

  -- an open node that is one of the roots is open further in
  pub open_inward : (level m : ℕ) → IsIn roots m → IsOpenAt F a level m → IsOpenAt (inner_frame F a J roots held) b level m
  open_inward level m (k, e) o = record {
    reached = reached_inward;
    inside = in_store m o.inside;
    within = root_within a.nodes roots k m e;
    free = λ M own v h. let f = o.free M (same_own M own) v h in record { level = f.level; scope = f.scope; at = ap (λ ns. slice_get ns v) only.nodes ∙ f.at; free = f.free; low = f.low };
  }

  -- a root of the frame around is one further in
  pub root_inward : (m : ℕ) → IsIn roots m → IsRoot F a m → IsRoot (inner_frame F a J roots held) b m
  root_inward m (k, e) r = record {
    inside = in_store m r.inside;
    within = root_within a.nodes roots k m e;
    low = λ M own v l o h f free. let le = r.low M (same_own M own) v l o h (ap (λ ns. slice_get ns v) (sym only.nodes) ∙ f) free in omega arith;
  }

  -- what has a type has it further in
  pub means_inward : {G : Letters} {type : Choice → Typ} (m : ℕ) → IsIn roots m → Means F a G type m → Means (inner_frame F a J roots held) b G type m
  means_inward m i p = record {
    open_node = open_lower (up F.level) (open_inward F.level m i p.open_node);
    is = λ V ch loose agrees. p.is V ch (subst (λ ns. Loose ns V) only.nodes loose) (agrees_as b a (λ i p. sym (only.types i p)) (λ x. sym (only.written x)) agrees);
  }
    where
      up : (l : ℕ) → l ≤ suc l
      up l = omega arith

  -- written type variables are open further in
  pub written_inward : KnowsWritten F a → KnowsWritten (inner_frame F a J roots held) b
  written_inward k = record {
    each = λ x m e. let f = sym (only.written x) ∙ e in open_lower (lower F.level) (open_inward (min F.level 1) m (g.written_in x m f) (k.each x m f));
    names = k.names;
    listed = λ x m e. k.listed x m (sym (only.written x) ∙ e);
  }
    where
      lower : (l : ℕ) → min l 1 ≤ min (suc l) 1
      lower l = grind arith

  -- the built-in types have nodes further in
  pub fixed_inward : ((k m : ℕ) → slice_get (fixed_nodes a.fixed) k ≡ Some m → IsIn roots m) → KnowsFixed F a → KnowsFixed (inner_frame F a J roots held) b
  fixed_inward fixed_in at = record {
    int = subst (λ f. Means (inner_frame F a J roots held) b [] (λ ch. int_type) f.int) (sym only.fixed) (means_inward a.fixed.int (fixed_in zero a.fixed.int refl) at.int);
    char = subst (λ f. Means (inner_frame F a J roots held) b [] (λ ch. char_type) f.char) (sym only.fixed) (means_inward a.fixed.char (fixed_in 1 a.fixed.char refl) at.char);
    string = subst (λ f. Means (inner_frame F a J roots held) b [] (λ ch. string_type) f.string) (sym only.fixed) (means_inward a.fixed.string (fixed_in 2 a.fixed.string refl) at.string);
    float = subst (λ f. Means (inner_frame F a J roots held) b [] (λ ch. float_type) f.float) (sym only.fixed) (means_inward a.fixed.float (fixed_in 3 a.fixed.float refl) at.float);
    unit = subst (λ f. Means (inner_frame F a J roots held) b [] (λ ch. unit_type) f.unit) (sym only.fixed) (means_inward a.fixed.unit (fixed_in 4 a.fixed.unit refl) at.unit);
    bool = subst (λ f. Means (inner_frame F a J roots held) b [] (λ ch. bool_type) f.bool) (sym only.fixed) (means_inward a.fixed.bool (fixed_in 5 a.fixed.bool refl) at.bool);
    exn = subst (λ f. Means (inner_frame F a J roots held) b [] (λ ch. exn_type) f.exn) (sym only.fixed) (means_inward a.fixed.exn (fixed_in 6 a.fixed.exn refl) at.exn);
  }

  -- a part further in is typed among the same names, where the roots have all that the names stand for and the nodes of the built-in types
  pub surrounds_inward : {D : Declared} {G : Letters} {env : List Entry} {scope : Scope} (at : Surrounds D F a G env scope) → ((k r : ℕ) → slice_get at.roots k ≡ Some r → IsIn roots r) →
      ((k m : ℕ) → slice_get (fixed_nodes a.fixed) k ≡ Some m → IsIn roots m) → Surrounds D (inner_frame F a J roots held) b G env scope
  surrounds_inward {D} {G} {env} {scope} at names fixed_in = record {
    reached = reached_inward;
    inside = below F.level;
    fixed = fixed_inward fixed_in at.fixed;
    written = written_inward at.written;
    item = at.item;
    roots = at.roots;
    names = at.names;
    apart = at.apart;
    steady = at.steady;
    are_roots = λ k r e. root_inward r (names k r e) (at.are_roots k r e);
    covered = subst (λ ns. Covers (D.declaration ns at.roots at.names) (D.exception ns at.roots at.names) at.roots env) (sym only.nodes) at.covered;
    known = λ known. subst (λ ns. KnowsNames D ns at.roots at.names env) (sym only.nodes) (at.known known);
    reads = λ M V ch own reads agrees named unbound.
        subst (λ ns. Stands SchemeReads (D.declaration ns at.roots at.names) (D.exception ns at.roots at.names) ns M at.roots V env (scope.env ch)) (sym only.nodes)
        (at.reads M V ch (same_own M own) (subst (λ ns. IsReading ns V) only.nodes reads) (back V ch agrees) (named_back named) (unbound_back ch unbound));
    fits = λ M V ch own loose agrees named.
        subst (λ ns. Stands SchemeFits (D.declaration ns at.roots at.names) (D.exception ns at.roots at.names) ns M at.roots V env (scope.env ch)) (sym only.nodes)
        (at.fits M V ch (same_own M own) (subst (λ ns. Loose ns V) only.nodes loose) (back V ch agrees) (named_back named));
  }
    where
      below : (l : ℕ) → 1 ≤ suc l
      below l = omega arith

      named_back : HoldsWritten scope b → HoldsWritten scope a
      named_back named x m e = named x m (only.written x ∙ e)

      unbound_back : (ch : Choice) → HoldsUnbound (inner_frame F a J roots held) scope b ch → HoldsUnbound F scope a ch
      unbound_back ch unbound k x e v bound = unbound k x e v (subst (λ ns. is_bound ns v ≡ true) (sym only.nodes) bound)

      back : (V : Types) (ch : Choice) → Agrees F.owner b G V ch → Agrees F.owner a G V ch
      back V ch agrees = agrees_as b a (λ i p. sym (only.types i p)) (λ x. sym (only.written x)) agrees
