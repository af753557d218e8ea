-- The sheet of the lists that the answer names; of a finished run it is filed.
use Rattle.run_sheets.specs.Runs.{sheet_filed}
use Rattle.run_sheets.proofs.sheet_of_run.Goals as goal

pub returns-in-Ok : goal.returns-in-Ok
returns-in-Ok c =
    let y = c.sheet in
    rw c.in-Ok.is (record { returns = y.ensures; by_index = λ most a l left run e f room. sheet_filed most a l left _ run _ _ _ _ _ e f room y.ensures })

pub returns-in-Err : goal.returns-in-Err
returns-in-Err c =
    let y = c.sheet-in-Err in
    rw c.in-Err.is (record { returns = y.ensures; by_index = λ most a l left run e f room. sheet_filed most a l left _ run _ _ _ _ _ e f room y.ensures })
