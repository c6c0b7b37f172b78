-- The end of the program: its exit status, and its line on standard error.
use Rattle.std.specs.Prelude.{ℕ, List, codes}
use Rattle.lam_frame.specs.declared.fault.FrameFault.{FrameFault}
use Rattle.lam_frame.specs.declared.fault.FrameFault.TheVariants.{NoLength, BadLength, TooLong, BadHeader, Truncated, Device, Memory, TooManyTurns, Spent}
use Rattle.lam_server.specs.declared.faults.RunFault.{RunFault}
use Rattle.lam_server.specs.declared.faults.RunFault.TheVariants.{Header, Device as DeviceRun, Memory as MemoryRun}

-- the error of a run when reading a frame fails; errors in the bytes keep their names
abbrev pub fault_of_run : FrameFault → RunFault
fault_of_run NoLength = Header NoLength
fault_of_run BadLength = Header BadLength
fault_of_run TooLong = Header TooLong
fault_of_run BadHeader = Header BadHeader
fault_of_run Truncated = Header Truncated
fault_of_run Device = DeviceRun
fault_of_run Memory = MemoryRun
fault_of_run TooManyTurns = DeviceRun
fault_of_run Spent = DeviceRun

-- the exit status: 3 for the bytes, 4 for a device, 5 for memory
abbrev pub status_of : RunFault → ℕ
status_of (Header NoLength) = 3
status_of (Header BadLength) = 3
status_of (Header TooLong) = 3
status_of (Header BadHeader) = 3
status_of (Header Truncated) = 3
status_of (Header Device) = 4
status_of (Header Memory) = 5
status_of (Header TooManyTurns) = 4
status_of (Header Spent) = 4
status_of DeviceRun = 4
status_of MemoryRun = 5

-- the line on standard error: the error's code and name
abbrev pub line_of : RunFault → List ℕ
line_of (Header NoLength) = codes "lam_server: F1 NoLength"
line_of (Header BadLength) = codes "lam_server: F2 BadLength"
line_of (Header TooLong) = codes "lam_server: F3 TooLong"
line_of (Header BadHeader) = codes "lam_server: F4 BadHeader"
line_of (Header Truncated) = codes "lam_server: F5 Truncated"
line_of (Header Device) = codes "lam_server: F6 Device"
line_of (Header Memory) = codes "lam_server: F7 Memory"
line_of (Header TooManyTurns) = codes "lam_server: F6 Device"
line_of (Header Spent) = codes "lam_server: F6 Device"
line_of DeviceRun = codes "lam_server: F6 Device"
line_of MemoryRun = codes "lam_server: F7 Memory"
