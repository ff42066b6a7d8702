-- A declaration over arguments, in a declaration: what calls make denotes its type over what the arguments denote.
use Rattle.std.proofs.Common.{◌≡◌, ◌∙◌, ◌++◌, ℕ, zero, suc, ◌+◌, ◌<◌, Bool, true, false, List, [], ◌∷◌, length, map, get_or, Some, refl, sym, ap, subst, arith, if◌then◌else◌}
use Rattle.std.specs.Prelude.{slice_get, All}
use Rattle.std.proofs.lemmas.Option.{slice_get_within}
use Rattle.text_terms.specs.Bytes.{str_bytes}
use Rattle.type_terms.specs.declared.types.Origin.{Origin}
use Rattle.type_model.specs.Types.{Path, Typ, Typs, types_of, occurs}
use Rattle.type_model.specs.Types.{Typ as type, Typs as types}
use Rattle.type_model.specs.Substitutions.{Subst, apply, apply_all}
use Rattle.signature_model.specs.Declarations as rules
use Rattle.signature_model.specs.Declarations.{type_of, defined_type, parameters_from}
use Rattle.signature_model.specs.Changes.{argument}
use Rattle.signature_model.specs.Matching.{all_used, is_unknown}
use Rattle.type_nodes.specs.Nodes.{Con, Tuple, IsNode, IsSound}
use Rattle.type_nodes.specs.Links.{root, reading}
use Rattle.type_nodes.specs.Changes.{Makes}
use Rattle.type_nodes.specs.Readings.{Types}
use Rattle.type_nodes.proofs.Lists.{one_element}
use Rattle.type_nodes.proofs.Roots.{closed_root}
use Rattle.level_unify.specs.Walks.{StandsIn}
use Rattle.level_unify.proofs.Walking.{get_here}
use Rattle.level_unify.specs.Instances.{Instantiated}
use Rattle.env_table.specs.declared.entries.Declaration.{Declaration}
use Rattle.typing_state.specs.declared.parts.Parts.{Parts}
use Rattle.typing_state.specs.Goes.{OnlyStore}
use Rattle.typing_state.specs.Types.{level_for}
use Rattle.typing_conditions.specs.Locals.{all_pass}
use Rattle.typing_conditions.specs.Standing.{IsIn}
use Rattle.typing_conditions.specs.Declared.{RootAs, OriginAs, DeclaredAs, and_last, with_parameters}
use Rattle.typing_conditions.specs.Sights.{Sight}
use Rattle.typing_conditions.specs.Frames.{Frame, Reaches, IsOpen, AreOpen, IsRoot}
use Rattle.typing_conditions.proofs.Own.{own_of}
use Rattle.typing_conditions.proofs.Regions.{any_in, passes, passed, passing_closed}
use Rattle.typing_conditions.proofs.Roots.{named_bound}
use Rattle.typing_conditions.proofs.Taking.{images_of}
use Rattle.typing_conditions.proofs.Later.{context_after}
use Rattle.typing_conditions.proofs.Instances.{root_within}
use Rattle.typing_conditions.proofs.DeclaredLater.{declared_after}
use Rattle.typing_conditions.proofs.Framing.{open_instance}
use Rattle.typing_steps.specs.States.{sight}
use Rattle.typing_steps.proofs.Seeing.{only_nodes, level_here}
use Rattle.typing_rows.proofs.Filled.{JoinsEach, tuple_is, reads_tuple}
use Rattle.typing_rows.proofs.Declared.{argument_at, parameters_used}
use Rattle.declared_rows.specs.Assignments.{Assignment, AssignedTo}
use Rattle.declared_rows.specs.Unknowns.{Opens}
use Rattle.declared_rows.specs.Contracts.{IsKnownBy}
use Rattle.declared_rows.proofs.Made.{all_assigned, all_inside, all_known, con_denotes}
use Rattle.declared_rows.proofs.Judged.{to_more}
use Rattle.declared_rows.specs.Applied.{AppliesWith, over_types}
use Rattle.declared_rows.proofs.Parts.{becomes_tuple, parts_alone, parts_tuple}
use Rattle.declared_rows.proofs.Abbreviated.{abbreviation_denotes}

-- what is known of a declaration at the frame's start is known at each state that is reached
pub known_here : {F : Frame} {a : Sight} {d : Declaration} {u : Typ} → Reaches F a → (k : IsKnownBy F d u) → DeclaredAs a.nodes F.roots k.names d k.rule
known_here {F} {a} r k = let own = own_of a.nodes r.sound in declared_after {I = F.types} {J = own.0} r.frame.own (r.local own.0 own.1).refines (λ n i. i) k.alike

-- and its root is one of the frame's
pub root_here : {F : Frame} {a : Sight} {n : ℕ} → Reaches F a → IsIn F.roots n → n < length a.nodes → IsRoot F a n
root_here {F} {a} {n} r (i, e) inside = record {
  inside = inside;
  within = root_within F.start F.roots i n e;
  low = λ J own v l o h at free. (context_after F.start a.nodes F.types J F.roots F.level r.frame.own own (r.local J own).refines r.frame.context).low v l o (any_in v J F.roots i n e h) at free;
}

-- a type of its own over types is a constructor over them
own_over : (n : ℕ) (A : Assignment) (ms : List ℕ) (o : Path) → is_unknown o ≡ false → type.Con o (types_of (map A.types ms)) ≡ over_types n (map A.types ms) (defined_type (length ms) (rules.Own o))
own_over n A ms o plain =
    ap (type.Con o) (sym (parameters_used (argument (types_of (map A.types ms))) (λ p. type.Con (p ++ n ∷ []) types.Nil) A.types ms 0 (λ i lt. ap (argument (types_of (map A.types ms))) (let e : 0 + i ≡ i = omega arith in e) ∙ argument_at A.types ms i lt))) ∙
    sym (ap (λ (b : Bool). if b then type.Con (o ++ n ∷ []) types.Nil else type.Con o (all_used (argument (types_of (map A.types ms))) (λ p. type.Con (p ++ n ∷ []) types.Nil) (parameters_from 0 (length ms)))) plain)

-- A declaration that makes an origin: the constructor over the arguments.
pub origin_applies : (a b : Parts) (d : Declaration) (p : Origin) (ms : List ℕ) (m : ℕ) → d.origin ≡ Some p → is_unknown p.path.items ≡ false → (All (IsNode a.store.nodes) ms → Makes a.store b.store m (Con p.path.items (str_bytes p.name) ms)) → OnlyStore a b → AppliesWith a b d ms m
origin_applies a b d p ms m makes plain made rest = λ F arity n U A ts u at known all many new.
    let inside = λ (k x : ℕ) (e : slice_get ms k ≡ Some x). (at.opens x (all_known all k x e)).inside in
    let x = con_denotes {s = a.store.trail} {u = b.store.trail} p.path.items (str_bytes p.name) at all (made (all_inside a.store.nodes ms inside)) (only_nodes a b rest) in
    let over : type.Con p.path.items (types_of (map A.types ms)) ≡ over_types n (map A.types ms) u = own_over n A ms p.path.items plain ∙ ap (over_types n (map A.types ms)) (ap (λ k. defined_type k (rules.Own p.path.items)) (many ∙ sym known.alike.arity) ∙ by known.rule.arity known.rule.definition (subst (λ o. OriginAs o known.rule.definition) makes known.alike.origin) ∙ known.is) in
    to_more n (subst (λ t. AssignedTo F arity U (sight a) (sight b) A m t) (ap (λ us. type.Con p.path.items (types_of us)) (sym (all_assigned all)) ∙ over ∙ ap (λ us. over_types n us u) (all_assigned all)) x)
  where
    by : (k : ℕ) (x : rules.Definition) → OriginAs (Some p) x → defined_type k (rules.Own p.path.items) ≡ defined_type k x
    by k (rules.Own o) f = ap (λ q. defined_type k (rules.Own q)) f
    by k (rules.Is t) f = absurd f

-- An abbreviation without arguments: an instance of its root, whose variables become unknown types.
pub alone_applies : (a b c : Parts) (d : Declaration) (m : ℕ) → (IsNode a.store.nodes d.root.0 → Instantiated a.store.nodes b.store.nodes d.root.0 (level_for a.level) m) → (IsNode a.store.nodes d.root.0 → IsSound b.store.nodes) → OnlyStore a b →
    (IsNode b.store.nodes m → Opens b.store.nodes c.store.nodes m []) → IsSound c.store.nodes → OnlyStore b c → AppliesWith a c d [] m
alone_applies a b c d m taken sound rest opens sound_c rest_c = λ F arity n U A ts u at known all many new.
    let alike = known_here at.reached known in
    let is_root = root_here at.reached alike.root.among alike.root.inside in
    let root_as = subst (λ k. RootAs a.store.nodes F.roots known.names k d.root.0 (with_parameters k (type_of known.rule))) (known.alike.arity ∙ sym many) alike.root in
    let inst = subst (λ l. Instantiated a.store.nodes b.store.nodes d.root.0 l m) (level_here a at.reached) (taken is_root.inside) in
    let sound_b = sound is_root.inside in
    let open_m = open_instance sound_b (only_nodes a b rest) inst at.reached is_root in
    let x = abbreviation_denotes {a = sight a} {b = sight b} {body = m} n [] [] at new (λ k y e. absurd (cc)) root_as is_root inst sound_b (only_nodes a b rest) (λ I own images. parts_alone own root_as images) open_m (λ k y e. absurd (cc)) refl (opens open_m.inside) sound_c (only_nodes b c rest_c) (sight c) refl in
    subst (λ t. AssignedTo F arity (n ∷ U) (sight a) (sight c) A m t) (ap (λ us. over_types n us (type_of known.rule)) (all_assigned all) ∙ ap (over_types n ts) known.is) x

-- the parts of a tuple that is a copy of parameters and a body: so many, and one more
record Split (qs : List ℕ) (k : ℕ) : Type 0 where
  pub front : List ℕ
  pub last : ℕ
  pub is : qs ≡ front ++ last ∷ []
  pub many : length front ≡ k

split_parts : (N : Types) (us : Typs) (V : Types) (s : Subst) (qs : List ℕ) (from k : ℕ) (t : Typ) → apply_all N us ≡ and_last (parameters_from from k) t → types_of (map V qs) ≡ apply_all s us → Split qs k
split_parts N types.Nil V s qs from zero t e f = absurd (cc)
split_parts N (types.Cons u types.Nil) V s [] from zero t e f = absurd (cc)
split_parts N (types.Cons u types.Nil) V s (q ∷ []) from zero t e f = record { front = []; last = q; is = refl; many = refl }
split_parts N (types.Cons u types.Nil) V s (q ∷ p ∷ qs) from zero t e f = absurd (let g : types.Cons (V q) (types.Cons (V p) (types_of (map V qs))) ≡ types.Cons (apply s u) types.Nil = f in cc)
split_parts N (types.Cons u (types.Cons w ws)) V s qs from zero t e f = absurd (cc)
split_parts N types.Nil V s qs from (suc k) t e f = absurd (cc)
split_parts N (types.Cons u us) V s [] from (suc k) t e f = absurd (cc)
split_parts N (types.Cons u us) V s (q ∷ qs) from (suc k) t e f =
    let g : apply_all N us ≡ and_last (parameters_from (from + 1) k) t = (let h : types.Cons (apply N u) (apply_all N us) ≡ types.Cons (type.Var from) (and_last (parameters_from (from + 1) k) t) = e in cc) in
    let x = split_parts N us V s qs (from + 1) k t g (let h : types.Cons (V q) (types_of (map V qs)) ≡ types.Cons (apply s u) (apply_all s us) = f in cc) in
    record { front = q ∷ x.front; last = x.last; is = ap (λ ms. q ∷ ms) x.is; many = ap suc x.many }

-- a node that stands in an open one is open
stands_open : {F : Frame} {b : Sight} {m z : ℕ} → IsOpen F b m → StandsIn b.nodes z m → z < length b.nodes → IsOpen F b z
stands_open {F} {b} {m} {z} o stands inside = record {
  reached = o.reached;
  inside = inside;
  within = record { each = λ S region. let own = own_of b.nodes o.reached.sound in stands.each S ((o.reached.local own.0 own.1).closed S region) (o.within.each S region) };
  free = λ J own v h. o.free J own v (passed (λ w. occurs w (J m)) (J z) v (stands.each (λ n. all_pass (λ w. occurs w (J m)) (J n)) (passing_closed b.nodes J (λ w. occurs w (J m)) own.loose) (passes (λ w. occurs w (J m)) (J m) (λ w i. i))) h);
}

-- so are the parts of a tuple
parts_open : {F : Frame} {b : Sight} {m : ℕ} {ms : List ℕ} → IsOpen F b m → reading b.nodes m ≡ Some (Tuple ms) → AreOpen F b ms
parts_open {F} {b} {m} {ms} o e k z at = stands_open o
    (record { each = λ S closed h. subst (λ n. S n ≡ true) here (closed.each (root b.nodes m) (Tuple ms) (closed_root b.nodes S closed m h) e k z lt) })
    (let (rank, ranked) = o.reached.sound in subst (λ n. n < length b.nodes) here (ranked.each (root b.nodes m) (Tuple ms) e k z lt).0)
  where
    lt : k < length ms
    lt = slice_get_within ms k z at

    here : get_or ms k z ≡ z
    here = one_element (get_or ms k z) z (slice_get ms k) (get_here ms k z lt) at

front_at : (ps : List ℕ) (body k p : ℕ) → slice_get ps k ≡ Some p → slice_get (ps ++ body ∷ []) k ≡ Some p
front_at [] body k p e = absurd (cc)
front_at (q ∷ ps) body zero p e = e
front_at (q ∷ ps) body (suc k) p e = front_at ps body k p e

last_at : (ps : List ℕ) (body : ℕ) → slice_get (ps ++ body ∷ []) (length ps) ≡ Some body
last_at [] body = refl
last_at (q ∷ ps) body = last_at ps body

-- An abbreviation over arguments: an instance of its root, whose other variables become unknown types, and whose parameters are made one with the arguments.
pub arguments_apply : (a b c d : Parts) (decl : Declaration) (tup x : ℕ) (xs : List ℕ) (m : ℕ) → (IsNode a.store.nodes decl.root.0 → Instantiated a.store.nodes b.store.nodes decl.root.0 (level_for a.level) tup) → (IsNode a.store.nodes decl.root.0 → IsSound b.store.nodes) → OnlyStore a b →
    ((ps : List ℕ) (body : ℕ) → IsNode b.store.nodes tup → reading b.store.nodes tup ≡ Some (Tuple (ps ++ body ∷ [])) → Opens b.store.nodes c.store.nodes tup ps) → IsSound c.store.nodes → OnlyStore b c →
    ((ps : List ℕ) (body : ℕ) → IsNode c.store.nodes tup → reading c.store.nodes tup ≡ Some (Tuple (ps ++ body ∷ [])) → length ps ≡ suc (length xs) → JoinsEach (sight c) (sight d) ps (x ∷ xs) × (m ≡ body)) → AppliesWith a d decl (x ∷ xs) m
arguments_apply a b c d decl tup x xs m taken sound rest opens sound_c rest_c fills = λ F arity n U A ts u at known all many new.
    let alike = known_here at.reached known in
    let is_root = root_here at.reached alike.root.among alike.root.inside in
    let root_as = subst (λ k. RootAs a.store.nodes F.roots known.names k decl.root.0 (with_parameters k (type_of known.rule))) (known.alike.arity ∙ sym many) alike.root in
    let inst = subst (λ l. Instantiated a.store.nodes b.store.nodes decl.root.0 l tup) (level_here a at.reached) (taken is_root.inside) in
    let sound_b = sound is_root.inside in
    let open_m = open_instance sound_b (only_nodes a b rest) inst at.reached is_root in
    let (I, own_a) = own_of a.store.nodes at.reached.sound in
    let (K, own_b) = own_of b.store.nodes sound_b in
    let images = images_of own_a own_b inst (λ v o. named_bound (root_as.named I own_a v o)) in
    let (us, is, named) = becomes_tuple (and_last (parameters_from 0 (suc (length xs))) (type_of known.rule)) (I decl.root.0) (root_as.named I own_a) (sym (root_as.is I own_a)) in
    let copy : K tup ≡ type.Tuple (apply_all (λ v. K (images.image v)) us) = images.is K own_b.loose ∙ ap (apply (λ v. K (images.image v))) is in
    let (qs, reads) = reads_tuple b.store.nodes K tup (apply_all (λ v. K (images.image v)) us) sound_b own_b open_m.inside copy in
    let same : types_of (map K qs) ≡ apply_all (λ v. K (images.image v)) us = (let f : type.Tuple (types_of (map K qs)) ≡ type.Tuple (apply_all (λ v. K (images.image v)) us) = sym (tuple_is b.store.nodes K tup qs own_b.loose reads) ∙ copy in cc) in
    let split = split_parts known.names us K (λ v. K (images.image v)) qs 0 (suc (length xs)) (type_of known.rule) named same in
    let reads_b : reading b.store.nodes tup ≡ Some (Tuple (split.front ++ split.last ∷ [])) = reads ∙ ap (λ ms. Some (Tuple ms)) split.is in
    let open_parts = parts_open open_m reads_b in
    let opened = opens split.front split.last open_m.inside reads_b in
    let reads_c : reading c.store.nodes tup ≡ Some (Tuple (split.front ++ split.last ∷ [])) = ap (slice_get c.store.nodes) (opened.roots tup) ∙ opened.stays (root b.store.nodes tup) (Tuple (split.front ++ split.last ∷ [])) reads_b (λ o. let f = o.is in cc) in
    let filled = fills split.front split.last (let e = opened.len in let lt = open_m.inside in omega arith) reads_c split.many in
    let y = abbreviation_denotes {a = sight a} {b = sight b} {body = split.last} n (x ∷ xs) split.front at new (all_known all) root_as is_root inst sound_b (only_nodes a b rest)
    (λ I own images. parts_tuple split.front (length xs) split.many own root_as images reads_b) (open_parts (length split.front) split.last (last_at split.front split.last)) (λ k p e. open_parts k p (front_at split.front split.last k p e)) split.many
    opened sound_c (only_nodes b c rest_c) (sight d) filled.0 in
    subst (λ t. AssignedTo F arity (n ∷ U) (sight a) (sight d) A m t) (ap (λ us. over_types n us (type_of known.rule)) (all_assigned all) ∙ ap (over_types n ts) known.is)
    (subst (λ k. AssignedTo F arity (n ∷ U) (sight a) (sight d) A k (over_types n (map A.types (x ∷ xs)) (type_of known.rule))) (sym filled.1) y)
