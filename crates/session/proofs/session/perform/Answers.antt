use native.Mathlib.Omega.{arith}
use lib.IntN.{ℤ}
use mir.Syntax.{w32}
use mir.Val.{SFits}
use mir.Facts.{to_z-of_z}
use Rattle.scan.specs.Check.{by_clock}
use Rattle.controller.specs.Check.{of_scan}
use Rattle.controller.specs.Supply.{set_temperature}
use mathlib.Core.Path.{ap, ◌∙◌}
use Rattle.std.specs.Prelude.{Ok, Err}
use Rattle.std.proofs.lemmas.Result.{err_from_is_err_and}
use Rattle.session.proofs.Turns.{byte_turn, data_turn, select_turn, supply_turn, temperature_turn, deadline_turn, update_turn, drive_turn, late_data, late_select, late_temperature, late_deadline, same_number}
use Rattle.session.proofs.session.perform.Goals as goal

pub returns-in_err-state-in-Byte : goal.returns-in_err-state-in-Byte
returns-in_err-state-in-Byte c =
    let a = c.args in
    let p = err_from_is_err_and c.from_residual.result c.from_residual.ensures.1 in
    rw (p.1, p.2) (byte_turn a.line a.state.now a.ram.now a.icons.now c.from_micros-moment.ensures c.in-Byte.value c.in-Byte.is (Err c.in_err-state-in-Byte.field-0.0) _ _ c.in_err-state-in-Byte.ensures)

pub returns-in_err-check-in-Data : goal.returns-in_err-check-in-Data
returns-in_err-check-in-Data c =
    let a = c.args in
    let p = err_from_is_err_and c.from_residual-in_err-check-in-Data.result c.from_residual-in_err-check-in-Data.ensures.1 in
    rw (p.1, p.2) (late_data a.line a.state.now a.ram.now a.icons.now c.from_micros-moment.ensures (of_scan (by_clock c.in_err-check-in-Data.field-0.0)) (same_number c.in_err-check-in-Data.field-0.0 c.in_err-check-in-Data.ensures) c.in-Data.on c.in-Data.is)

pub returns-in_err-state-in-Data : goal.returns-in_err-state-in-Data
returns-in_err-state-in-Data c =
    let a = c.args in
    let p = err_from_is_err_and c.from_residual-in_err-state-in-Data.result c.from_residual-in_err-state-in-Data.ensures.1 in
    rw (p.1, p.2) (data_turn a.line a.state.now a.ram.now a.icons.now c.from_micros-moment.ensures c.in_ok-check-in-Data.ensures (Err c.in_err-state-in-Data.field-0.0) c.in-Data.on c.in-Data.is c.in_err-state-in-Data.ensures)

pub returns-in_err-check-in-Select : goal.returns-in_err-check-in-Select
returns-in_err-check-in-Select c =
    let a = c.args in
    let p = err_from_is_err_and c.from_residual-in_err-check-in-Select.result c.from_residual-in_err-check-in-Select.ensures.1 in
    rw (p.1, p.2) (late_select a.line a.state.now a.ram.now a.icons.now c.from_micros-moment.ensures (of_scan (by_clock c.in_err-check-in-Select.field-0.0)) (same_number c.in_err-check-in-Select.field-0.0 c.in_err-check-in-Select.ensures) c.in-Select.on c.in-Select.is)

pub returns-in_err-state-in-Select : goal.returns-in_err-state-in-Select
returns-in_err-state-in-Select c =
    let a = c.args in
    let p = err_from_is_err_and c.from_residual-in_err-state-in-Select.result c.from_residual-in_err-state-in-Select.ensures.1 in
    rw (p.1, p.2) (select_turn a.line a.state.now a.ram.now a.icons.now c.from_micros-moment.ensures c.in_ok-check-in-Select.ensures (Err c.in_err-state-in-Select.field-0.0) c.in-Select.on c.in-Select.is c.in_err-state-in-Select.ensures)

pub returns-in_err-state-in-Supply : goal.returns-in_err-state-in-Supply
returns-in_err-state-in-Supply c =
    let a = c.args in
    let p = err_from_is_err_and c.from_residual-in_err-state-in-Supply.result c.from_residual-in_err-state-in-Supply.ensures.1 in
    rw (p.1, p.2) (supply_turn a.line a.state.now a.ram.now a.icons.now c.from_micros-moment.ensures c.in-Supply.millivolts c.in-Supply.is (Err c.in_err-state-in-Supply.field-0.0) c.in_err-state-in-Supply.ensures)

pub returns-in_err-check-in-Temperature : goal.returns-in_err-check-in-Temperature
returns-in_err-check-in-Temperature c =
    let a = c.args in
    let p = err_from_is_err_and c.from_residual-in_err-check-in-Temperature.result c.from_residual-in_err-check-in-Temperature.ensures.1 in
    rw (p.1, p.2) (late_temperature a.line a.state.now a.ram.now a.icons.now c.from_micros-moment.ensures (of_scan (by_clock c.in_err-check-in-Temperature.field-0.0)) (same_number c.in_err-check-in-Temperature.field-0.0 c.in_err-check-in-Temperature.ensures) c.in-Temperature.t c.in-Temperature.is)

pub returns-in_err-state-in-Temperature : goal.returns-in_err-state-in-Temperature
returns-in_err-state-in-Temperature c =
    let a = c.args in
    let p = err_from_is_err_and c.from_residual-in_err-state-in-Temperature.result c.from_residual-in_err-state-in-Temperature.ensures.1 in
    let fits : SFits w32 c.in-Temperature.t = record { sfits = omega arith } in
    rw (p.1, p.2) (temperature_turn a.line a.state.now a.ram.now a.icons.now c.from_micros-moment.ensures c.in_ok-check-in-Temperature.ensures (Err c.in_err-state-in-Temperature.field-0.0) c.in-Temperature.t c.in-Temperature.is (c.in_err-state-in-Temperature.ensures ∙ ap (λ (z : ℤ). set_temperature a.state.now z) (to_z-of_z {w = w32} fits)))

pub returns-in_err-check-in-Deadline : goal.returns-in_err-check-in-Deadline
returns-in_err-check-in-Deadline c =
    let a = c.args in
    let p = err_from_is_err_and c.from_residual-in_err-check-in-Deadline.result c.from_residual-in_err-check-in-Deadline.ensures.1 in
    rw (p.1, p.2) (late_deadline a.line a.state.now a.ram.now a.icons.now c.from_micros-moment.ensures (of_scan (by_clock c.in_err-check-in-Deadline.field-0.0)) (same_number c.in_err-check-in-Deadline.field-0.0 c.in_err-check-in-Deadline.ensures) c.in-Deadline.is)

pub returns-in_err-state-in-Deadline : goal.returns-in_err-state-in-Deadline
returns-in_err-state-in-Deadline c =
    let a = c.args in
    let p = err_from_is_err_and c.from_residual-in_err-state-in-Deadline.result c.from_residual-in_err-state-in-Deadline.ensures.1 in
    rw (p.1, p.2) (deadline_turn a.line a.state.now a.ram.now a.icons.now c.from_micros-moment.ensures c.in_ok-check-in-Deadline.ensures (Err c.in_err-state-in-Deadline.field-0.0) c.in-Deadline.is c.in_err-state-in-Deadline.ensures)

pub returns-in_err-state-in-Update : goal.returns-in_err-state-in-Update
returns-in_err-state-in-Update c =
    let a = c.args in
    let p = err_from_is_err_and c.from_residual-in_err-state-in-Update.result c.from_residual-in_err-state-in-Update.ensures.1 in
    rw (p.1, p.2) (update_turn a.line a.state.now a.ram.now a.icons.now c.from_micros-moment.ensures c.in-Update.is (Err c.in_err-state-in-Update.field-0.0) c.in_err-state-in-Update.ensures)

pub returns-in_err-drive-in-Drive : goal.returns-in_err-drive-in-Drive
returns-in_err-drive-in-Drive c =
    let a = c.args in
    let p = err_from_is_err_and c.from_residual-in_err-drive-in-Drive.result c.from_residual-in_err-drive-in-Drive.ensures.1 in
    rw (p.1, p.2) (drive_turn a.line a.state.now a.ram.now a.icons.now c.from_micros-moment.ensures c.in-Drive.is (Err c.in_err-drive-in-Drive.field-0.0) c.in_err-drive-in-Drive.ensures)

pub returns-in-Drive : goal.returns-in-Drive
returns-in-Drive c =
    let a = c.args in
    rw c.row_of.ensures (drive_turn a.line a.state.now a.ram.now a.icons.now c.from_micros-moment.ensures c.in-Drive.is (Ok c.in_ok-drive-in-Drive.field-0) c.in_ok-drive-in-Drive.ensures)

pub returns-in_ok-state-in-Byte : goal.returns-in_ok-state-in-Byte
returns-in_ok-state-in-Byte c = let a = c.args in byte_turn a.line a.state.now a.ram.now a.icons.now c.from_micros-moment.ensures c.in-Byte.value c.in-Byte.is (Ok c.in_ok-state-in-Byte.field-0) _ _ c.in_ok-state-in-Byte.ensures

pub returns-in_ok-state-in-Data : goal.returns-in_ok-state-in-Data
returns-in_ok-state-in-Data c = let a = c.args in data_turn a.line a.state.now a.ram.now a.icons.now c.from_micros-moment.ensures c.in_ok-check-in-Data.ensures (Ok c.in_ok-state-in-Data.field-0) c.in-Data.on c.in-Data.is c.in_ok-state-in-Data.ensures

pub returns-in_ok-state-in-Select : goal.returns-in_ok-state-in-Select
returns-in_ok-state-in-Select c = let a = c.args in select_turn a.line a.state.now a.ram.now a.icons.now c.from_micros-moment.ensures c.in_ok-check-in-Select.ensures (Ok c.in_ok-state-in-Select.field-0) c.in-Select.on c.in-Select.is c.in_ok-state-in-Select.ensures

pub returns-in_ok-state-in-Supply : goal.returns-in_ok-state-in-Supply
returns-in_ok-state-in-Supply c = let a = c.args in supply_turn a.line a.state.now a.ram.now a.icons.now c.from_micros-moment.ensures c.in-Supply.millivolts c.in-Supply.is (Ok c.in_ok-state-in-Supply.field-0) c.in_ok-state-in-Supply.ensures

pub returns-in_ok-state-in-Temperature : goal.returns-in_ok-state-in-Temperature
returns-in_ok-state-in-Temperature c =
    let a = c.args in
    let fits : SFits w32 c.in-Temperature.t = record { sfits = omega arith } in
    temperature_turn a.line a.state.now a.ram.now a.icons.now c.from_micros-moment.ensures c.in_ok-check-in-Temperature.ensures (Ok c.in_ok-state-in-Temperature.field-0) c.in-Temperature.t c.in-Temperature.is (c.in_ok-state-in-Temperature.ensures ∙ ap (λ (z : ℤ). set_temperature a.state.now z) (to_z-of_z {w = w32} fits))

pub returns-in_ok-state-in-Deadline : goal.returns-in_ok-state-in-Deadline
returns-in_ok-state-in-Deadline c = let a = c.args in deadline_turn a.line a.state.now a.ram.now a.icons.now c.from_micros-moment.ensures c.in_ok-check-in-Deadline.ensures (Ok c.in_ok-state-in-Deadline.field-0) c.in-Deadline.is c.in_ok-state-in-Deadline.ensures

pub returns-in_ok-state-in-Update : goal.returns-in_ok-state-in-Update
returns-in_ok-state-in-Update c = let a = c.args in update_turn a.line a.state.now a.ram.now a.icons.now c.from_micros-moment.ensures c.in-Update.is (Ok c.in_ok-state-in-Update.field-0) c.in_ok-state-in-Update.ensures
