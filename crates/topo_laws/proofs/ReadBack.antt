-- What is exported is read back.
use Rattle.std.proofs.Common.{◌≡◌, ℕ, ◌^◌, ◌<◌, List, length, Contains, Result, Ok, Err, refl, sym, ap, ◌∙◌, subst, subst₂, arith}
use Rattle.std.specs.Prelude.{codes}
use Rattle.lemmas.proofs.Members.{All-from_members}
use Rattle.tgap_model.specs.declared.base.Transform.{Transform}
use Rattle.tgap_model.specs.declared.slice.Edge.{Edge}
use Rattle.tgap_model.specs.declared.topology.NamedRules.{NamedRules}
use Rattle.tgap_model.specs.declared.topology.RawMap.{RawMap}
use Rattle.tgap_model.specs.declared.fault.MapFault.{MapFault}
use Rattle.tgap_model.specs.Base.{BaseMap}
use Rattle.tgap_model.specs.Slice.{slice}
use Rattle.tgap_model.proofs.BaseFacts.{base_facts, rules_facts}
use Rattle.step_laws.proofs.EachSlice.{slices_stay_partitions}
use Rattle.slice_read.specs.Ends.{slice_ends}
use Rattle.topo_write.specs.declared.flat.FlatRing.{FlatRing}
use Rattle.topo_write.specs.Polygons.{Polygon, lines_of, polygons_of}
use Rattle.topo_write.specs.Topology.{topology_text, export}
use Rattle.topology_forms.specs.Topology.{topology}
use Rattle.map_forms.specs.RulesFile.{rules_of}
use Rattle.line_forms.specs.Lines.{◌>>=◌}
use Rattle.topology_forms.specs.Rings.{based, topology_base}
use Rattle.ring_sides.proofs.BasedIsBase.{based_is_base}
use Rattle.topo_laws.specs.Told.{told}
use Rattle.topo_laws.specs.ReadBack.{ExportsAreReadBack}
use Rattle.topo_laws.proofs.PartRings.{are_polygons}
use Rattle.topo_laws.proofs.ReadText.{texts_are_read}
use Rattle.topo_laws.proofs.ReadBase.{read_base, is_read, arcs_read, is_raw}
use Rattle.topo_laws.proofs.PartsPlanar.{parts_planar}
use Rattle.topo_laws.proofs.SliceDrawn.{slice_faces, slice_keys, slice_drawn, slice_classes, slice_lines, slice_tellable}

-- the text of a slice that has polygons
text_is : (edges : List Edge) (m : BaseMap) (k : ℕ) (t : Transform) (polygons : List Polygon) (text : List ℕ) → polygons_of (slice m k).edges (slice_ends m k) (slice m k).faces ≡ Ok polygons
    → export (slice m k) (slice_ends m k) t ≡ Ok text → topology_text t (lines_of (slice m k).edges) polygons ≡ text
unfolding export
text_is edges m k t polygons text e f =
    let made : ◌≡◌ {A = Result (List ℕ) FlatRing} (Ok (topology_text t (lines_of (slice m k).edges) polygons)) (Ok text)
    = sym (ap (λ (r : Result (List Polygon) FlatRing). elim r [ Ok polygons ↦ Ok (topology_text t (lines_of (slice m k).edges) polygons) | Err flat ↦ Err flat ]) e) ∙ f in
    cc

-- what is read of the two files
file_is : (text bytes : List ℕ) (named : NamedRules) (raw : RawMap) (base : BaseMap) → topology text (codes "map") named.property ≡ Ok raw → based raw named ≡ Ok base → rules_of bytes ≡ Ok named
    → topology_base text (codes "map") bytes ≡ Ok base
unfolding topology_base
file_is text bytes named raw base e f g =
    ap (λ (r : Result NamedRules MapFault). r >>= λ rules. topology text (codes "map") rules.property >>= λ map. based map rules) g
    ∙ ap (λ (r : Result RawMap MapFault). r >>= λ map. based map named) e ∙ f

pub exports_are_read_back : ExportsAreReadBack
exports_are_read_back m base planar k within named numbered polygons made few text written =
    let edges = (slice m k).edges in
    let ends = slice_ends m k in
    let rows = (slice m k).faces in
    let drawn = slice_drawn m base planar k within in
    let are = are_polygons edges ends rows polygons made in
    let lines = slice_lines m base planar k within in
    let rules = rules_facts m.rules (base_facts m base).rules in
    let count = rules.few_classes in
    let classes = slice_classes m base planar k within in
    let small : length m.rules.weights < 2 ^ 32 = omega (arith, count) in
    let raw = told m.transform (lines_of edges) polygons in
    let base_read = read_base edges ends rows polygons drawn are m.transform named (length m.rules.weights) numbered.names small classes in
    let formed = is_raw edges ends rows polygons drawn are m.transform lines.0 lines.1 few lines.2 in
    let read : topology text (codes "map") named.property ≡ Ok raw
    = subst₂ (λ t p. topology t (codes "map") p ≡ Ok raw) (text_is edges m k m.transform polygons text made written) (sym numbered.property)
    (texts_are_read m.transform (lines_of edges) polygons (slice_tellable m base planar k within polygons are few)) in
    let based_is : based raw named ≡ Ok base_read
    = is_read edges ends rows polygons drawn are m.transform named (length m.rules.weights) numbered.names small classes formed in
    record {
      raw = raw;
      base = base_read;
      read = read;
      made = based_is;
      file = λ bytes e. file_is text bytes named raw base_read read based_is e;
      formed = λ rules. based_is_base raw named base_read formed rules (base_facts m base).transform based_is;
      base_is = record {
        transform = refl;
        rules = numbered.rules;
        arcs = arcs_read edges ends rows polygons drawn are m.transform named (length m.rules.weights) numbered.names small classes;
        classes = refl;
        faces = All-from_members (λ p. Contains rows p.row) polygons (λ p c.
            let part = are.parts p c in
            subst (Contains rows) (sym part.2.row_is) part.1);
      };
      planar = λ one. parts_planar edges ends rows polygons drawn are m.transform (slice_keys m base planar k within) (slice_faces m base planar k within) one
          (slices_stay_partitions m base planar k within);
    }
