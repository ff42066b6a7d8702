-- An instance of a declaration's root whose parameters and unknown types have any keys: the copy has the type of the use.
use Rattle.std.proofs.Common.{◌≡◌, ◌∙◌, ◌++◌, inl, inr, ℕ, zero, suc, Some, ◌<◌, true, List, [], ◌∷◌, length, refl, sym, ap, subst, append-nil}
use Rattle.std.specs.Prelude.{slice_get}
use Rattle.std.proofs.lemmas.Bool.{eqb-true}
use Rattle.type_model.specs.Types.{Path, Typ, Typs, occurs, occurs_any}
use Rattle.type_model.specs.Types.{Typ as type, Typs as types}
use Rattle.type_model.specs.Substitutions.{Subst, apply}
use Rattle.type_model.proofs.Applying.{or_left, or_right, or_cases, eqb_same}
use Rattle.typing_laws.proofs.Bools.{no_yes}
use Rattle.signature_model.specs.Matching.{used}
use Rattle.typing_model.specs.Contexts.{Choice, Context}
use Rattle.type_nodes.specs.Nodes.{Node, IsSound}
use Rattle.type_nodes.specs.Readings.{Types}
use Rattle.level_unify.specs.Instances.{Instantiated}
use Rattle.level_unify.specs.Solutions.{Loose}
use Rattle.level_unify.proofs.Unified.{fits_loosely}
use Rattle.typing_conditions.specs.Locals.{IsOwn, Refines}
use Rattle.typing_conditions.proofs.Own.{own_of}
use Rattle.typing_conditions.proofs.Steps.{refines_made}
use Rattle.typing_conditions.specs.Declared.{RootAs}
use Rattle.typing_conditions.proofs.Roots.{named_bound}
use Rattle.typing_conditions.proofs.Taking.{HasImages, images_of, take_sound, take_each, take_complete}
use Rattle.typing_conditions.specs.Sights.{Sight, Key, own, filled, value_of, Letters, IsKnownFor, AreGiven, AreNodes}
use Rattle.typing_conditions.specs.Frames.{Frame, Reaches, IsOpen, IsRoot}
use Rattle.typing_conditions.specs.Judging.{judgements, StartsWith}
use Rattle.typing_conditions.specs.Steps.{OnlyNodes}
use Rattle.typing_conditions.specs.Carrying.{Scope, Enters, Stays, Continues, CarriedTo}
use Rattle.typing_conditions.proofs.Judged.{given_left, given_right, given_both, nodes_both}
use Rattle.typing_conditions.proofs.Framing.{open_instance, written_next}
use Rattle.typing_conditions.proofs.Carried.{take_none}
use Rattle.typing_conditions.proofs.First.{starts_none}
use Rattle.typing_conditions.proofs.Making.{loose_before, reading_before}
use Rattle.typing_conditions.proofs.Meaning.{agrees_same, inside_longer}
use Rattle.typing_conditions.proofs.Hiding.{split_get, keeps_as, settles_none, none_doubtful}
use Rattle.typing_conditions.proofs.Copies.{copied_after}
use Rattle.typing_conditions.proofs.Stops.{none_stop}

-- what is chosen for a name: for a parameter by its number, for an unknown type at the node n
abbrev pub key_by : (ℕ → Key) → ℕ → Typ → Key
key_by key n (type.Var k) = key k
key_by key n (type.Arrow a b) = own n
key_by key n (type.Tuple ts) = own n
key_by key n (type.Con o ts) = filled n o

-- the images of a type's variables, each for its key
abbrev mutual
  pub images_by : (ℕ → Key) → (ℕ → ℕ) → Typ → Letters
  images_by key image (type.Var v) = (key v, image v) ∷ []
  images_by key image (type.Arrow a b) = images_by key image a ++ images_by key image b
  images_by key image (type.Tuple ts) = images_by_all key image ts
  images_by key image (type.Con o ts) = images_by_all key image ts

  -- of several types
  pub images_by_all : (ℕ → Key) → (ℕ → ℕ) → Typs → Letters
  images_by_all key image types.Nil = []
  images_by_all key image (types.Cons t ts) = images_by key image t ++ images_by_all key image ts

module _ (key : ℕ → Key) (free : (v : ℕ) (t : Typ) → IsKnownFor (key v) t) (image : ℕ → ℕ) (V : Types) (ch : Choice) where
  mutual
    -- each image has the type that is chosen
    pub given_at : (t : Typ) → AreGiven (images_by key image t) V ch → (v : ℕ) → occurs v t ≡ true → value_of ch (key v) ≡ V (image v)
    given_at (type.Var w) g v o = let s = eqb-true v w o in ap (λ x. value_of ch (key x)) s ∙ g.0.is ∙ ap (λ x. V (image x)) (sym s)
    given_at (type.Arrow a b) g v o = elim (or_cases (occurs v a) (occurs v b) o) [
      | inl i ↦ given_at a (given_left V ch (images_by key image a) (images_by key image b) g) v i
      | inr i ↦ given_at b (given_right V ch (images_by key image a) (images_by key image b) g) v i
    ]
    given_at (type.Tuple ts) g v o = given_at_all ts g v o
    given_at (type.Con c ts) g v o = given_at_all ts g v o

    given_at_all : (ts : Typs) → AreGiven (images_by_all key image ts) V ch → (v : ℕ) → occurs_any v ts ≡ true → value_of ch (key v) ≡ V (image v)
    given_at_all types.Nil g v o = absurd (no_yes o)
    given_at_all (types.Cons t ts) g v o = elim (or_cases (occurs v t) (occurs_any v ts) o) [
      | inl i ↦ given_at t (given_left V ch (images_by key image t) (images_by_all key image ts) g) v i
      | inr i ↦ given_at_all ts (given_right V ch (images_by key image t) (images_by_all key image ts) g) v i
    ]

    -- and they are given where each has
    pub at_given : (t : Typ) → ((v : ℕ) → occurs v t ≡ true → value_of ch (key v) ≡ V (image v)) → AreGiven (images_by key image t) V ch
    at_given (type.Var w) h = (record { is = h w (eqb_same w); known = free w (V (image w)) }, tt)
    at_given (type.Arrow a b) h =
        given_both V ch (images_by key image a) (images_by key image b) (at_given a (λ v o. h v (or_left (occurs v a) (occurs v b) o))) (at_given b (λ v o. h v (or_right (occurs v a) (occurs v b) o)))
    at_given (type.Tuple ts) h = at_given_all ts h
    at_given (type.Con c ts) h = at_given_all ts h

    at_given_all : (ts : Typs) → ((v : ℕ) → occurs_any v ts ≡ true → value_of ch (key v) ≡ V (image v)) → AreGiven (images_by_all key image ts) V ch
    at_given_all types.Nil h = tt
    at_given_all (types.Cons t ts) h = given_both V ch (images_by key image t) (images_by_all key image ts) (at_given t (λ v o. h v (or_left (occurs v t) (occurs_any v ts) o))) (at_given_all ts (λ v o. h v (or_right (occurs v t) (occurs_any v ts) o)))

module _ (key : ℕ → Key) (image : ℕ → ℕ) (nodes : List Node) where
  mutual
    -- they are nodes where each is
    pub nodes_at : (t : Typ) → ((v : ℕ) → occurs v t ≡ true → image v < length nodes) → AreNodes (images_by key image t) nodes
    nodes_at (type.Var w) h = (h w (eqb_same w), tt)
    nodes_at (type.Arrow a b) h = nodes_both (images_by key image a) (images_by key image b) nodes (nodes_at a (λ v o. h v (or_left (occurs v a) (occurs v b) o))) (nodes_at b (λ v o. h v (or_right (occurs v a) (occurs v b) o)))
    nodes_at (type.Tuple ts) h = nodes_at_all ts h
    nodes_at (type.Con c ts) h = nodes_at_all ts h

    nodes_at_all : (ts : Typs) → ((v : ℕ) → occurs_any v ts ≡ true → image v < length nodes) → AreNodes (images_by_all key image ts) nodes
    nodes_at_all types.Nil h = tt
    nodes_at_all (types.Cons t ts) h = nodes_both (images_by key image t) (images_by_all key image ts) nodes (nodes_at t (λ v o. h v (or_left (occurs v t) (occurs_any v ts) o))) (nodes_at_all ts (λ v o. h v (or_right (occurs v t) (occurs_any v ts) o)))

mutual
  -- each is the image of a variable that stands in the type
  pub image_by : (key : ℕ → Key) (image : ℕ → ℕ) (t : Typ) (k : ℕ) (x : Key × ℕ) → slice_get (images_by key image t) k ≡ Some x → (v : ℕ) × (occurs v t ≡ true) × (x.0 ≡ key v) × (x.1 ≡ image v)
  image_by key image (type.Var v) zero x e = let s : (key v, image v) ≡ x = cc in (v, eqb_same v, ap (λ (y : Key × ℕ). y.0) (sym s), ap (λ (y : Key × ℕ). y.1) (sym s))
  image_by key image (type.Var v) (suc k) x e = absurd (cc)
  image_by key image (type.Arrow a b) k x e = elim (split_get (images_by key image a) (images_by key image b) k x e) [
    | inl (j, f) ↦ let (v, o, p, q) = image_by key image a j x f in (v, or_left (occurs v a) (occurs v b) o, p, q)
    | inr (j, f) ↦ let (v, o, p, q) = image_by key image b j x f in (v, or_right (occurs v a) (occurs v b) o, p, q)
  ]
  image_by key image (type.Tuple ts) k x e = image_by_all key image ts k x e
  image_by key image (type.Con c ts) k x e = image_by_all key image ts k x e

  image_by_all : (key : ℕ → Key) (image : ℕ → ℕ) (ts : Typs) (k : ℕ) (x : Key × ℕ) → slice_get (images_by_all key image ts) k ≡ Some x → (v : ℕ) × (occurs_any v ts ≡ true) × (x.0 ≡ key v) × (x.1 ≡ image v)
  image_by_all key image types.Nil k x e = absurd (cc)
  image_by_all key image (types.Cons t ts) k x e = elim (split_get (images_by key image t) (images_by_all key image ts) k x e) [
    | inl (j, f) ↦ let (v, o, p, q) = image_by key image t j x f in (v, or_left (occurs v t) (occurs_any v ts) o, p, q)
    | inr (j, f) ↦ let (v, o, p, q) = image_by_all key image ts j x f in (v, or_right (occurs v t) (occurs_any v ts) o, p, q)
  ]

-- the letters of a use, and what it carries: nothing is asked, and its node has the type of the use; a copy has other types in the place of the root's variables.
-- The letters are the images of the root's variables, each with its key.
pub record UsedWith (key : ℕ → Key) (F : Frame) (scope : Scope) (a : Sight) (G : Letters) (b : Sight) (root : ℕ) (type : Choice → Typ) (m : ℕ) : Type 0 where
  pub letters : Letters
  pub nodes : AreNodes letters b.nodes
  pub typed : CarriedTo F scope (λ c. []) a G b (letters ++ G) type m
  pub types : Types
  pub own_types : IsOwn a.nodes types
  pub image : ℕ → ℕ
  pub inside : (v : ℕ) → occurs v (types root) ≡ true → image v < length b.nodes
  pub each : (k : ℕ) (x : Key × ℕ) → slice_get letters k ≡ Some x → (v : ℕ) × (occurs v (types root) ≡ true) × (x.0 ≡ key v)
  pub given : (V : Types) (ch : Choice) → ((v : ℕ) → occurs v (types root) ≡ true → value_of ch (key v) ≡ V (image v)) → AreGiven letters V ch
  pub taken : (V : Types) (ch : Choice) → AreGiven letters V ch → (v : ℕ) → occurs v (types root) ≡ true → value_of ch (key v) ≡ V (image v)
  pub copy : (V : Types) → Loose b.nodes V → V m ≡ apply (λ v. V (image v)) (types root)
  pub copies : (I K : Types) → IsOwn a.nodes I → IsOwn b.nodes K → (u : Subst) × (K m ≡ apply u (I root))

-- An instance of a root that stands for a type has that type as it is used with these arguments and these types for the unknown ones, where the keys are chosen so.
pub root_used : {F : Frame} {scope : Scope} {G : Letters} {a b : Sight} {C : List ℕ} {N : Types} {arity root m : ℕ} {t : Typ} (key : ℕ → Key) → ((v : ℕ) (x : Typ) → IsKnownFor (key v) x) → (s : Choice → Subst) (f : Choice → Path → Typ) →
    ((ch : Choice) (J : Types) → IsOwn a.nodes J → (v : ℕ) → occurs v (J root) ≡ true → value_of ch (key v) ≡ used (s ch) (f ch) (N v)) → Reaches F a → IsRoot F a root → RootAs a.nodes C N arity root t →
    IsSound b.nodes → Instantiated a.nodes b.nodes root F.level m → OnlyNodes a b → UsedWith key F scope a G b root (λ ch. used (s ch) (f ch) t) m
root_used {F} {scope} {G} {a} {b} {C} {N} {arity} {root} {m} {t} key free s f named reached is_root as_root sound taken rest = record {
  letters = letters;
  nodes = letter_nodes;
  typed = record {
    carried = record {
      stays = stays;
      hidden = [];
      settled = settles_none;
      clear = λ known placed. none_doubtful;
      judged = [];
      told = [];
      reports = rest.reports ∙ sym (append-nil a.reports);
      counted = refl;
      sound = λ r V c l. record { same = refl; holds = tt; tells = refl; sees = tt; starts = refl };
      follows = λ r V c l. refl;
      complete = λ named V c e h. inl (complete V c e);
      first = λ named k V c e h. inl (subst (λ cs. StartsWith [] (judgements c.kept cs)) (sym (take_none k)) (starts_none []));
      stops = none_stop;
    };
    means = record {
      open_node = opened;
      is = λ V ch loose g. take_sound own_a.1 as_root images V (s ch) (f ch) loose (λ v o. sym (named ch own_a.0 own_a.1 v o) ∙ given_at key free images.image V ch (own_a.0 root) (given_left V ch letters G g.given) v o);
    };
  };
  types = own_a.0;
  own_types = own_a.1;
  image = images.image;
  inside = images.inside;
  each = λ k x e. let (v, o, p, q) = image_by key images.image (own_a.0 root) k x e in (v, o, p);
  given = λ V ch h. at_given key free images.image V ch (own_a.0 root) h;
  taken = λ V ch h. given_at key free images.image V ch (own_a.0 root) h;
  copy = images.is;
  copies = λ I K own_i own_k. let i = images_of own_i own_k taken (λ v o. named_bound (as_root.named I own_i v o)) in ((λ v. K (i.image v)), i.is K own_k.loose);
}
  where
    own_a : (J : Types) × IsOwn a.nodes J
    own_a = own_of a.nodes reached.sound

    images : HasImages b.nodes own_a.0 root m
    images = images_of own_a.1 (own_of b.nodes sound).1 taken (λ v o. named_bound (as_root.named own_a.0 own_a.1 v o))

    letters : Letters
    letters = images_by key images.image (own_a.0 root)

    letter_nodes : AreNodes letters b.nodes
    letter_nodes = nodes_at key images.image b.nodes (own_a.0 root) images.inside

    opened : IsOpen F b m
    opened = open_instance sound rest taken reached is_root

    refines : Reaches F a → (K : Types) → IsOwn b.nodes K → Refines a.nodes b.nodes K
    refines r K own_b = refines_made a.nodes b.nodes K own_b (record { longer = taken.extends.longer; node = taken.extends.node })

    stays : Stays F a G b (letters ++ G)
    stays = record {
      longer = taken.extends.longer;
      loose = λ V h. loose_before a.nodes b.nodes V taken.extends h;
      reads = λ V h. reading_before a.nodes b.nodes V taken.extends h;
      reaches = λ r. opened.reached;
      writes = written_next rest.written (λ r. opened.reached) refines;
      refines = refines;
      recorded = λ i k y e. rest.types i k ∙ e;
      keeps = keeps_as rest.noted rest.scopes rest.types;
      written = λ y k e. rest.written y ∙ e;
      given = λ V ch h. given_right V ch letters G h;
      opens = copied_after letters G;
      inside = λ h.
          let i = inside_longer a b rest.types rest.written taken.extends.longer h in
          record { recorded = i.recorded; written = i.written; given = nodes_both letters G b.nodes letter_nodes i.given };
      aloud = rest.aloud;
      item = rest.item;
      level = rest.level;
      fixed = rest.fixed;
    }

    complete : (V : Types) (c : Context) → Enters F scope a G V c → Continues F (λ x. []) a b (letters ++ G) [] [] V c
    complete V c e =
        let ch = c.chosen in
        let (W, fits, same, is) = take_complete own_a.1 as_root taken V (s ch) (f ch) e.fits in
        let each = take_each own_a.1 as_root images W (s ch) (f ch) (fits_loosely b.nodes W fits) is in
        let g = agrees_same a b rest.types rest.written e.inside same e.agrees in
        record {
          same = refl;
          types = W;
          on = record {
            fits = fits;
            before = same;
            agrees = record {
              recorded = g.recorded;
              known = g.known;
              written = g.written;
              given = given_both W ch letters G (at_given key free images.image W ch (own_a.0 root) (λ v o. named ch own_a.0 own_a.1 v o ∙ each v o)) g.given;
            };
          };
          hidden_too = (tt, tt);
        }
