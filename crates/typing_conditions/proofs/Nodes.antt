-- New nodes: a variable for what a choice chooses, and nodes over others that have types.
use Rattle.std.proofs.Common.{◌≡◌, ◌∙◌, ℕ, zero, suc, ◌<◌, List, map, length, refl, sym, ap, arith, [], ◌∷◌, ◌++◌, inl, ◌⊎◌, append-nil}
use Rattle.std.specs.Prelude.{All}
use Rattle.type_model.specs.Types.{Path, Typ, types_of}
use Rattle.type_model.specs.Types.{Typ as type}
use Rattle.type_model.specs.Limits.{no_scope}
use Rattle.typing_model.specs.Demands.{same, AllHold}
use Rattle.typing_model.specs.Contexts.{Choice, Context}
use Rattle.type_nodes.specs.Nodes.{Node, Var, Arrow, Tuple, Con, parts}
use Rattle.type_nodes.specs.Readings.{Types, FitsNode}
use Rattle.type_nodes.specs.States.{Change, state}
use Rattle.type_nodes.specs.Changes.{Makes}
use Rattle.level_unify.specs.Solutions.{Loose}
use Rattle.level_unify.specs.Copies.{Extends}
use Rattle.level_unify.proofs.Unified.{fits_loosely}
use Rattle.typing_conditions.specs.Locals.{IsOwn, Refines}
use Rattle.typing_conditions.proofs.Steps.{refines_made}
use Rattle.typing_conditions.specs.Sights.{Sight, Key, value_of, Letters, IsKnownFor, AreNodes, SameAt}
use Rattle.typing_conditions.specs.Frames.{Frame, Reaches, IsOpen, AreOpen}
use Rattle.typing_conditions.specs.Meanings.{Means, AllMean, none_mean, one_means, types_by}
use Rattle.typing_conditions.specs.Judging.{FallsShort}
use Rattle.typing_conditions.specs.Steps.{OnlyNodes}
use Rattle.typing_conditions.specs.Carrying.{Scope, Enters, GoesOn, Stays, Continues, Carried, CarriedTo}
use Rattle.typing_conditions.proofs.Judged.{given_right, nodes_both}
use Rattle.typing_conditions.proofs.Stays.{agrees_before, stays_opened}
use Rattle.typing_conditions.proofs.Framing.{open_var, open_made, written_next}
use Rattle.typing_conditions.proofs.First.{first_none, first_one, nothing_met}
use Rattle.typing_conditions.proofs.Making.{with_type, at_own, at_older, in_any_scope, makes_extends, made_here, loose_before, reading_before, fits_made}
use Rattle.typing_conditions.proofs.Meaning.{all_open, all_types, agrees_same, inside_longer}
use Rattle.typing_conditions.proofs.Hiding.{keeps_as, settles_none, none_doubtful}
use Rattle.typing_conditions.proofs.Copies.{copied_after}
use Rattle.typing_conditions.proofs.Stops.{none_stop}

-- where a node was made everything stays
pub made_stays : {F : Frame} {G : Letters} {a b : Sight} {s t : List Change} {n : ℕ} {c : Node} (more : Letters) → IsOpen F b n → Makes (state a.nodes s) (state b.nodes t) n c → OnlyNodes a b → AreNodes more b.nodes → Stays F a G b (more ++ G)
made_stays {F} {G} {a} {b} {s} {t} {n} {c} more opened made rest new = record {
  longer = extends.longer;
  loose = λ V h. loose_before a.nodes b.nodes V extends h;
  reads = λ V r. reading_before a.nodes b.nodes V extends r;
  reaches = λ r. opened.reached;
  writes = written_next rest.written (λ r. opened.reached) refines;
  refines = refines;
  recorded = λ i k x e. rest.types i k ∙ e;
  keeps = keeps_as rest.noted rest.scopes rest.types;
  written = λ x k e. rest.written x ∙ e;
  given = λ V ch h. given_right V ch more G h;
  opens = copied_after more G;
  inside = λ h. let i = inside_longer a b rest.types rest.written extends.longer h in record { recorded = i.recorded; written = i.written; given = nodes_both more G b.nodes new i.given };
  aloud = rest.aloud;
  item = rest.item;
  level = rest.level;
  fixed = rest.fixed;
}
  where
    extends : Extends a.nodes b.nodes
    extends = makes_extends (state a.nodes s) (state b.nodes t) n c made

    refines : Reaches F a → (K : Types) → IsOwn b.nodes K → Refines a.nodes b.nodes K
    refines r K own = refines_made a.nodes b.nodes K own (record { longer = extends.longer; node = extends.node })

-- a new variable stands for what a choice chooses, where unknown types may stand in that
pub letter_made : {F : Frame} {scope : Scope} {G : Letters} {a b : Sight} {s t : List Change} {n : ℕ} (key : Key) → ((x : Typ) → IsKnownFor key x) → Reaches F a → Makes (state a.nodes s) (state b.nodes t) n (Var F.level no_scope) → OnlyNodes a b →
    CarriedTo F scope (λ c. []) a G b ((key, n) ∷ G) (λ ch. value_of ch key) n
letter_made {F} {scope} {G} {a} {b} {s} {t} {n} key free r made rest = record {
  carried = record {
    stays = made_stays ((key, n) ∷ []) opened made rest (opened.inside, tt);
    hidden = [];
    settled = settles_none;
    clear = λ known placed. none_doubtful;
    judged = [];
    told = [];
    reports = rest.reports ∙ sym (append-nil a.reports);
    counted = refl;
    sound = λ r V c l. nothing_met c.kept;
    follows = λ r V c l. refl;
    complete = λ named V c e h. inl (record { same = refl; types = with_type V n (value_of c.chosen key); on = goes V c e; hidden_too = (tt, tt) });
    first = λ named k V c e h. first_none k c;
    stops = none_stop;
  };
  means = record { open_node = opened; is = λ V ch loose g. g.given.0.is };
}
  where
    opened : IsOpen F b n
    opened = open_var r made rest

    older : (V : Types) (x : Typ) → SameAt a.nodes V (with_type V n x)
    older V x m lt = at_older V n x m (let e = made.added.number in omega arith)

    goes : (V : Types) (c : Context) → Enters F scope a G V c → GoesOn F a b ((key, n) ∷ G) V (with_type V n (value_of c.chosen key)) c.chosen
    goes V c e =
        let x = value_of c.chosen key in
        let g = agrees_same a b rest.types rest.written e.inside (older V x) e.agrees in
        record {
          fits = fits_made (state a.nodes s) (state b.nodes t) n (Var F.level no_scope) r.sound made V x e.fits (λ open_here. in_any_scope (with_type V n x n));
          before = older V x;
          agrees = record { recorded = g.recorded; known = g.known; written = g.written; given = (record { is = sym (at_own V n x); known = free (with_type V n x n) }, g.given) };
        }

-- a node over others was made: types that fit go on to it by the types of its parts
node_made : {F : Frame} {scope : Scope} {G : Letters} {a b : Sight} {s t : List Change} {n : ℕ} {c : Node} (build : Types → Typ) → Reaches F a → IsOpen F b n → Makes (state a.nodes s) (state b.nodes t) n c → OnlyNodes a b →
    ((V : Types) → FitsNode (with_type V n (build V)) n c) → Carried F scope (λ x. []) a G b G
node_made {F} {scope} {G} {a} {b} {s} {t} {n} {c} build r opened made rest builds = record {
  stays = made_stays [] opened made rest tt;
  hidden = [];
  settled = settles_none;
  clear = λ known placed. none_doubtful;
  judged = [];
  told = [];
  reports = rest.reports ∙ sym (append-nil a.reports);
  counted = refl;
  sound = λ r V x l. nothing_met x.kept;
  follows = λ r V x l. refl;
  complete = λ named V x e h. inl (record {
    same = refl;
    types = with_type V n (build V);
    on = record {
      fits = fits_made (state a.nodes s) (state b.nodes t) n c r.sound made V (build V) e.fits (builds V);
      before = older V (build V);
      agrees = agrees_same a b rest.types rest.written e.inside (older V (build V)) e.agrees;
    };
    hidden_too = (tt, tt);
  });
  first = λ named k V x e h. first_none k x;
  stops = none_stop;
}
  where
    older : (V : Types) (x : Typ) → SameAt a.nodes V (with_type V n x)
    older V x m lt = at_older V n x m (let e = made.added.number in omega arith)

-- older nodes have their types beside a new one
types_older : (V : Types) (n : ℕ) (w : Typ) (ms : List ℕ) → All (λ m. m < n) ms → map (with_type V n w) ms ≡ map V ms
types_older V n w [] h = refl
types_older V n w (m ∷ ms) h = let p = at_older V n w m (h zero zero (omega arith)) in let q = types_older V n w ms (λ k d lt. h (suc k) d (omega arith)) in (λ i. p i ∷ q i)

all_below : {F : Frame} {a : Sight} (ms : List ℕ) (n : ℕ) → n ≡ length a.nodes → AreOpen F a ms → All (λ m. m < n) ms
all_below [] n e h k d lt = absurd (omega arith)
all_below (m ∷ ms) n e h zero d lt = let i = (h zero m refl).inside in omega (arith, e, i)
all_below (m ∷ ms) n e h (suc k) d lt = all_below ms n e (λ j x f. h (suc j) x f) k d (omega arith)

-- a new node whose type is built from those of its parts
built_made : {F : Frame} {scope : Scope} {G : Letters} {a b : Sight} {s t : List Change} {n : ℕ} (c : Node) (build : List Typ → Typ) (types : List (Choice → Typ)) → ((l o : ℕ) → c ≡ Var l o → ⊥) →
    ((V : Types) (m : ℕ) → V m ≡ build (map V (parts c)) → FitsNode V m c) → ((V : Types) → Loose b.nodes V → V n ≡ build (map V (parts c))) →
    Reaches F a → AllMean F a G types (parts c) → Makes (state a.nodes s) (state b.nodes t) n c → OnlyNodes a b → CarriedTo F scope (λ x. []) a G b G (λ ch. build (types_by ch types)) n
built_made {F} {scope} {G} {a} {b} {s} {t} {n} c build types isnt fits reads r p made rest = record {
  carried = carried;
  means = record {
    open_node = opened;
    is = λ V ch loose g. ap build (all_types p V ch (carried.stays.loose V loose) (agrees_before carried.stays g)) ∙ sym (reads V loose);
  };
}
  where
    opened : IsOpen F b n
    opened = open_made r isnt (all_open p) made rest

    carried : Carried F scope (λ x. []) a G b G
    carried = node_made (λ V. build (map V (parts c))) r opened made rest (λ V.
        let w : Typ = build (map V (parts c)) in
        fits (with_type V n w) n (at_own V n w ∙ ap build (sym (types_older V n w (parts c) (all_below (parts c) n made.added.number (all_open p))))))

-- the arrow over the first two of some types
abbrev pub arrow_of : List Typ → Typ
arrow_of [] = type.Var 0
arrow_of (t ∷ []) = t
arrow_of (t ∷ u ∷ ts) = type.Arrow t u

-- a new arrow
pub arrow_made : {F : Frame} {scope : Scope} {G : Letters} {from to : Choice → Typ} {x y n : ℕ} {a b : Sight} {s t : List Change} → Means F a G from x → Means F a G to y →
    Makes (state a.nodes s) (state b.nodes t) n (Arrow x y) → OnlyNodes a b → CarriedTo F scope (λ c. []) a G b G (λ ch. type.Arrow (from ch) (to ch)) n
arrow_made {from = from} {to = to} {x = x} {y = y} {n = n} {a = a} {b = b} {s = s} {t = t} p q made rest =
    built_made (Arrow x y) arrow_of (from ∷ to ∷ []) (λ l o e. absurd (cc)) (λ V m e. e) (λ V loose. loose.each n (Arrow x y) (made_here (state a.nodes s) (state b.nodes t) n (Arrow x y) made))
    p.open_node.reached (one_means p (one_means q none_mean)) made rest

-- a new constructor over arguments
pub con_made : {F : Frame} {scope : Scope} {G : Letters} {args : List (Choice → Typ)} {ms : List ℕ} {n : ℕ} {a b : Sight} {s t : List Change} (path : Path) (name_of : List ℕ) → Reaches F a → AllMean F a G args ms →
    Makes (state a.nodes s) (state b.nodes t) n (Con path name_of ms) → OnlyNodes a b → CarriedTo F scope (λ c. []) a G b G (λ ch. type.Con path (types_of (types_by ch args))) n
con_made {args = args} {ms = ms} {n = n} {a = a} {b = b} {s = s} {t = t} path name_of r p made rest =
    built_made (Con path name_of ms) (λ ts. type.Con path (types_of ts)) args (λ l o e. absurd (cc)) (λ V m e. e)
    (λ V loose. loose.each n (Con path name_of ms) (made_here (state a.nodes s) (state b.nodes t) n (Con path name_of ms) made)) r p made rest

-- a new tuple
pub tuple_made : {F : Frame} {scope : Scope} {G : Letters} {types : List (Choice → Typ)} {ms : List ℕ} {n : ℕ} {a b : Sight} {s t : List Change} → Reaches F a → AllMean F a G types ms →
    Makes (state a.nodes s) (state b.nodes t) n (Tuple ms) → OnlyNodes a b → CarriedTo F scope (λ c. []) a G b G (λ ch. type.Tuple (types_of (types_by ch types))) n
tuple_made {types = types} {ms = ms} {n = n} {a = a} {b = b} {s = s} {t = t} r p made rest =
    built_made (Tuple ms) (λ ts. type.Tuple (types_of ts)) types (λ l o e. absurd (cc)) (λ V m e. e)
    (λ V loose. loose.each n (Tuple ms) (made_here (state a.nodes s) (state b.nodes t) n (Tuple ms) made)) r p made rest

-- A node whose row gives it a type, and for which nothing is recorded: what the choice has for it is that type.
pub same_made : {F : Frame} {scope : Scope} {G : Letters} {a : Sight} {m : ℕ} {type : Choice → Typ} (key : Key) → ((x : Typ) → IsKnownFor key x) → Means F a G type m →
    Carried F scope (λ c. same (value_of c.chosen key) (type c.chosen) ∷ []) a G a ((key, m) ∷ G)
same_made {F} {scope} {G} {a} {m} {type} key free p = record {
  stays = stays_opened key p.open_node.inside;
  hidden = [];
  settled = settles_none;
  clear = λ known placed. none_doubtful;
  judged = [];
  told = [];
  reports = sym (append-nil a.reports);
  counted = refl;
  sound = λ r V c l.
      let before = agrees_before (stays_opened {F = F} key p.open_node.inside) l.agrees in
      record { same = refl; holds = (l.agrees.given.0.is ∙ sym (p.is V c.chosen (fits_loosely a.nodes V l.reads.fits) before), tt); tells = refl; sees = tt; starts = refl };
  follows = λ r V c l. refl;
  complete = λ named. complete;
  first = λ named. first_one (λ c. same (value_of c.chosen key) (type c.chosen)) complete;
  stops = none_stop;
}
  where
    complete : (V : Types) (c : Context) → Enters F scope a G V c → AllHold c.kept (same (value_of c.chosen key) (type c.chosen) ∷ []) →
        Continues F (λ c. same (value_of c.chosen key) (type c.chosen) ∷ []) a a ((key, m) ∷ G) [] [] V c ⊎ FallsShort [] []
    complete V c e h =
        let is = h.0 ∙ p.is V c.chosen (fits_loosely a.nodes V e.fits) e.agrees in
        let g = e.agrees in
        inl (record {
          same = refl;
          types = V;
          on = record { fits = e.fits; before = λ i lt. refl; agrees = record { recorded = g.recorded; known = g.known; written = g.written; given = (record { is = is; known = free (V m) }, g.given) } };
          hidden_too = (tt, tt);
        })
