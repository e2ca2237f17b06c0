use Rattle.std.proofs.Common.{◌≡◌, ◌∙◌, sym, ap, ◌-◌, ◌^◌, ℕ, arith}
use Rattle.std.specs.Prelude.{min}
use Rattle.nla_frames.specs.Frame.{type_of}
use Rattle.tc_index.specs.Nesting.{class_in}
use Rattle.tc_index.specs.Tables.{table_of}
use Rattle.tc_index.specs.declared.table.Table.{Table}
use Rattle.tc_faults.specs.declared.path.Path.{Path}
use Rattle.tc_faults.specs.Located.{offset_in}
use Rattle.tc_faults.proofs.Offsets.{at-value}
use Rattle.tc_faults.proofs.fault.fault_at.Goals as goal
use Rattle.tc_faults.proofs.fault.fault_at.Goals.{in-Actions, in_default}

pub returns-clause-offset : goal.returns-clause-offset
returns-clause-offset c =
    let a = c.args.attribute.now in
    elim c.match-attribute.branch [
      | in-Actions w ↦ ap (λ (x : ℕ × Path). x.0) w.offset-is ∙ w.place_in.ensures
          ∙ ap (λ (t : Table). min (offset_in (class_in (table_of t) (type_of a.word) a.kind.now) a.offset a.value.now) (2 ^ 64 - 1)) (sym w.in-Actions.is)
      | in_default w ↦
          let same = at-value a.table (type_of a.word) a.kind.now a.offset a.value.now w.in_default.not-Actions in
          let here : c.match-attribute.offset.0 ≡ a.offset = ap (λ (x : ℕ × Path). x.0) w.offset-is in
          omega (arith, same, here)
    ]
