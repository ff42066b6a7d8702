-- When names stand for the same as others, and are defined at the same spans of the prelude.
use Rattle.std.specs.Prelude.{◌≡◌, ℕ, List, [], ◌∷◌, map}
use Rattle.std.specs.declared.rc.Rc.{Rc}
use Rattle.std.specs.declared.alloc.Global.{Global}
use Rattle.text_terms.specs.Bytes.{str_bytes}
use Rattle.type_terms.specs.declared.types.NodeRef.{NodeRef}
use Rattle.type_terms.specs.Views.{path_of}
use Rattle.env_table.specs.declared.entries.Constructor.{Constructor}
use Rattle.env_table.specs.declared.entries.Declaration.{Declaration}
use Rattle.env_table.specs.declared.entries.Entry.{Entry}
use Rattle.env_table.specs.declared.entries.Place.{Place}
use Rattle.env_table.specs.declared.entries.Place.TheVariants as place
use Rattle.env_table.specs.declared.entries.What.{What}
use Rattle.env_table.specs.declared.entries.What.TheVariants as what
use Rattle.env_table.specs.declared.entries.Sig.{Sig}
use Rattle.env_table.specs.declared.entries.Sig.TheVariants as sig
use Rattle.env_table.specs.declared.entries.Components.{out-Components}
use Rattle.env_table.specs.declared.entries.Template.{Template, out-Template}

-- a place in the text that was read, as one of the prelude
abbrev pub place_there : Place → Place
place_there (place.Buffer s) = place.Prelude s
place_there (place.Prelude s) = place.Prelude s
place_there (place.BuiltIn k) = place.BuiltIn k

-- the entries behind owners
abbrev pub values_of : List (Rc Entry Global) → List Entry
values_of es = map (λ (r : Rc Entry Global). r.value) es

mutual
  -- a name stands for the same; the names in a module are defined in the prelude too
  pub data WhatThere : (old new : What) → Type 0 where
    same_value : {w v : What} (n : NodeRef) → w ≡ what.Scheme n → v ≡ what.Scheme n → WhatThere w v
    same_constructor : {w v : What} (d e : Rc Declaration Global) (k : _) → w ≡ what.Constructor d k → v ≡ what.Constructor e k → e.value ≡ d.value → WhatThere w v
    same_exception : {w v : What} (c d : Rc Constructor Global) → w ≡ what.Exception c → v ≡ what.Exception d → d.value ≡ c.value → WhatThere w v
    same_label : {w v : What} (d e : Rc Declaration Global) (k : _) → w ≡ what.Label d k → v ≡ what.Label e k → e.value ≡ d.value → WhatThere w v
    same_type : {w v : What} (d e : Rc Declaration Global) → w ≡ what.Type d → v ≡ what.Type e → e.value ≡ d.value → WhatThere w v
    module_there : {w v : What} (s t : Rc Sig Global) → w ≡ what.Module s → v ≡ what.Module t → SigThere s.value t.value → WhatThere w v
    module_type_there : {w v : What} (s t : Rc Template Global) → w ≡ what.ModuleType s → v ≡ what.ModuleType t → TemplateThere s.value t.value → WhatThere w v

  -- an entry of the same name and kind, defined in the prelude
  pub data EntryThere : (old new : Entry) → Type 0 where
    entry_there : {e f : Entry} → str_bytes f.name ≡ str_bytes e.name → f.kind ≡ e.kind → f.place ≡ place_there e.place → WhatThere e.what f.what → EntryThere e f

  -- entries, one by one
  pub data AreThere : (old new : List Entry) → Type 0 where
    none_there : AreThere [] []
    one_there : {e f : Entry} {es fs : List Entry} → EntryThere e f → AreThere es fs → AreThere (e ∷ es) (f ∷ fs)

  -- a signature with these names
  pub data SigThere : (old new : Sig) → Type 0 where
    hole_there : {s t : Sig} → s ≡ sig.Hole → t ≡ sig.Hole → SigThere s t
    structure_there : {s t : Sig} (c d : _) → s ≡ sig.Structure c → t ≡ sig.Structure d → AreThere (values_of (out-Components c).entries.items) (values_of (out-Components d).entries.items) → SigThere s t
    functor_there : {s t : Sig} (p b q d : Rc Template Global) → s ≡ sig.Functor p b → t ≡ sig.Functor q d → TemplateThere p.value q.value → TemplateThere b.value d.value → SigThere s t

  -- a template with the same origins
  pub data TemplateThere : (old new : Template) → Type 0 where
    template_there : {t u : Template} → map path_of (out-Template u).made.items ≡ map path_of (out-Template t).made.items → SigThere (out-Template t).sig.value (out-Template u).sig.value → TemplateThere t u
