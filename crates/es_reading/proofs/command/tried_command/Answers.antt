use Rattle.std.proofs.Common.{sym}
use Rattle.serde_json.specs.Events.{items_len}
use Rattle.serde_json.specs.View.{items_view}
use Rattle.es_reading.specs.Forms.{form}
use Rattle.es_reading.specs.Reading.{form_read, name_read, said, tried_form_read}
use Rattle.es_reading.proofs.Tried.{first_wins, gives_script, tried_first, tried_form, tried_name, tried_ok, tried_operand}
use Rattle.es_reading.proofs.command.tried_command.Goals as goal

pub returns-then-is_of_form : goal.returns-then-is_of_form
returns-then-is_of_form c =
    let scope = said c.args.scope.now in
    let ds = items_view c.args.operands.now in
    let o = form scope.version c.args.word.now (items_len ds) in
    tried_form scope c.args.spot o c.args.to.now ds c.in-Err-Script.fault (gives_script (form_read scope c.args.spot o ds) c.in-Err-Script.field-0 c.in-Err-Script.fault c.in-Err-Script.field-0-is c.in-Err-Script.ensures) (sym c.if-is_of_form.ensures)

pub returns-in-Ok-to : goal.returns-in-Ok-to
returns-in-Ok-to c =
    let scope = said c.args.scope.now in
    let ds = items_view c.args.operands.now in
    let o = form scope.version c.args.word.now (items_len ds) in
    tried_operand scope c.args.spot o c.args.to.now ds c.in-Ok-to.field-0 c.in-Err-Script.fault c.in-Ok-to.ensures (gives_script (form_read scope c.args.spot o ds) c.in-Err-Script.field-0 c.in-Err-Script.fault c.in-Err-Script.field-0-is c.in-Err-Script.ensures)

pub returns-in-Err-Script : goal.returns-in-Err-Script
returns-in-Err-Script c =
    let scope = said c.args.scope.now in
    let ds = items_view c.args.operands.now in
    let o = form scope.version c.args.word.now (items_len ds) in
    first_wins c.in-Err.first (name_read c.args.spot c.args.to.now) (tried_form_read scope c.args.spot o c.args.to.now ds)
    (λ g is. tried_first scope c.args.spot o c.args.to.now ds g c.in-Err-Script.fault is (gives_script (form_read scope c.args.spot o ds) c.in-Err-Script.field-0 c.in-Err-Script.fault c.in-Err-Script.field-0-is c.in-Err-Script.ensures) (sym c.if-is_of_form.ensures)) c.in-Err.ensures

pub returns-in-Ok-to-2 : goal.returns-in-Ok-to-2
returns-in-Ok-to-2 c =
    let scope = said c.args.scope.now in
    let ds = items_view c.args.operands.now in
    let o = form scope.version c.args.word.now (items_len ds) in
    tried_ok scope c.args.spot o c.args.to.now ds c.in-Ok-to-2.to c.in-Ok.command c.in-Ok-to-2.ensures c.in-Ok.ensures

pub returns : goal.returns
returns c =
    let scope = said c.args.scope.now in
    let ds = items_view c.args.operands.now in
    let o = form scope.version c.args.word.now (items_len ds) in
    first_wins c.in-Err-to.first (name_read c.args.spot c.args.to.now) (tried_form_read scope c.args.spot o c.args.to.now ds)
    (λ g is. tried_name scope c.args.spot o c.args.to.now ds g c.in-Ok.command is c.in-Ok.ensures) c.in-Err-to.ensures
