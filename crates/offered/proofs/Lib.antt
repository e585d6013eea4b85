-- Figures of the paper laid flat; a refusal is bare, and nothing is lost; every refusal is one of the reasons; a drawer's records; what an
-- emendation says; the clerk; the yearbook's figures; four printed texts; the new form of the sheet; and the proofs of the statements.
pub mod Structs
pub mod Sound
pub mod Drawers
pub mod Emended
pub mod Clerks
pub mod Cases
pub mod Texts
pub mod Yearbook
pub mod Paper
pub mod Renewed
